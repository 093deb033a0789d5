-- A generated script is one that could have been read.
use Rattle.std.proofs.Common.{◌≡◌, ℕ, zero, suc, ◌+◌, ◌*◌, ◌%◌, ◌<◌, ◌≤◌, ◌^◌, Bool, true, false, ◌&&◌, List, [], ◌∷◌, ◌++◌, map, length, refl, ap, ◌∙◌, arith, length-append}
use Rattle.std.specs.Prelude.{nat_le, nat_lt, ◌==◌, if◌then◌else◌}
use Rattle.std.specs.List.{list_all, sum_by}
use Rattle.std.specs.Str.{bytes_eq}
use Rattle.std.proofs.lemmas.Bool.{le-leb, lt-ltb}
use Rattle.std.proofs.lemmas.List.{map-append}
use Rattle.std.proofs.lemmas.List.Sums.{sum-map, sum_by-append}
use Rattle.aq_base.specs.declared.limits.TheConstants.{SESSION_LIMIT, STATEMENT_LIMIT}
use Rattle.history_laws.specs.Ordered.{is_ordered, are_ordered}
use Rattle.queue_rows.specs.Distinct.{are_distinct}
use Rattle.queue_rows.specs.Within.{is_within, is_session_name, is_script_within, statement_count, are_within}
use Rattle.queue_rows.specs.declared.history.SessionScript.{SessionScript}
use Rattle.queue_rows.specs.declared.statement.Statement.TheVariants.{Commit}
use Rattle.queue_rows.specs.declared.statement.Visibility.TheVariants.{OnCommit, Immediate}
use Rattle.script_text.specs.Readable.{AreReadable}
use Rattle.work_gen.specs.Draws.{next_number, draw_of}
use Rattle.work_gen.specs.Script.{preparation, enqueue, dequeue, drawn_enqueue, drawn, number_after, drawn_statements, session_name, session_of, number_past, generated}
use Rattle.work_gen.proofs.Names.{is_a_session_name, first_names, names_distinct}
use Rattle.work_gen.proofs.Tests.{joined, append_all, push_all}

-- ---- statements

enqueue_within : (priority qty : ℕ) → priority < 2 ^ 31 → is_within (enqueue priority qty) ≡ true
unfolding is_within
enqueue_within priority qty h = rw (lt-ltb priority (2 ^ 31) h) refl

one_within : (a b c : Bool) (x : ℕ) → is_within (if a then drawn_enqueue x else (if b then record { statement = dequeue Immediate; number = x } else (if c then record { statement = dequeue OnCommit; number = x } else record { statement = Commit; number = x }))).statement ≡ true
unfolding is_within
one_within true b c x = enqueue_within (draw_of (next_number x) % 16) (draw_of (next_number (next_number x)) % 1000) (omega arith)
one_within false true c x = refl
one_within false false true x = refl
one_within false false false x = refl

drawn_within : (x : ℕ) → is_within (drawn x).statement ≡ true
unfolding drawn
drawn_within x = let r = draw_of (next_number x) % 8 in one_within (nat_lt r 4) (nat_lt r 6) (r == 6) (next_number x)

one_ordered : (a b c : Bool) (x : ℕ) → is_ordered (if a then drawn_enqueue x else (if b then record { statement = dequeue Immediate; number = x } else (if c then record { statement = dequeue OnCommit; number = x } else record { statement = Commit; number = x }))).statement ≡ true
one_ordered true b c x = refl
one_ordered false true c x = refl
one_ordered false false true x = refl
one_ordered false false false x = refl

drawn_ordered : (x : ℕ) → is_ordered (drawn x).statement ≡ true
unfolding drawn
drawn_ordered x = let r = draw_of (next_number x) % 8 in one_ordered (nat_lt r 4) (nat_lt r 6) (r == 6) (next_number x)

all_within : (count x : ℕ) → list_all is_within (drawn_statements count x) ≡ true
unfolding drawn_statements
all_within zero x = refl
all_within (suc n) x = push_all is_within (drawn_statements n x) (drawn (number_after n x)).statement (all_within n x) (drawn_within (number_after n x))

all_ordered : (count x : ℕ) → list_all is_ordered (drawn_statements count x) ≡ true
unfolding drawn_statements
all_ordered zero x = refl
all_ordered (suc n) x = push_all is_ordered (drawn_statements n x) (drawn (number_after n x)).statement (all_ordered n x) (drawn_ordered (number_after n x))

counted : (count x : ℕ) → length (drawn_statements count x) ≡ count
unfolding drawn_statements
counted zero x = refl
counted (suc n) x =
    let one : length (drawn_statements n x ++ (drawn (number_after n x)).statement ∷ []) ≡ length (drawn_statements n x) + 1 = length-append (drawn_statements n x) ((drawn (number_after n x)).statement ∷ []) in
    let before : length (drawn_statements n x) ≡ n = counted n x in
    omega arith

-- ---- a session

prepared_within : (session : ℕ) → list_all is_within (preparation session) ≡ true
unfolding is_within
prepared_within zero = refl
prepared_within (suc n) = refl

prepared_ordered : (session : ℕ) → list_all is_ordered (preparation session) ≡ true
prepared_ordered zero = refl
prepared_ordered (suc n) = refl

prepared_few : (session : ℕ) → length (preparation session) ≤ 3
prepared_few zero = omega arith
prepared_few (suc n) = omega arith

session_within : (session count x : ℕ) → session < 64 → is_script_within (session_of session count x) ≡ true
session_within session count x h = joined (is_session_name (session_name session)) (list_all is_within (preparation session ++ drawn_statements count x))
    (is_a_session_name session h) (append_all is_within (preparation session) (drawn_statements count x) (prepared_within session) (all_within count x))

session_few : (session count x : ℕ) → count ≤ 10000 → length (preparation session ++ drawn_statements count x) ≤ 10003
session_few session count x h =
    let both : length (preparation session ++ drawn_statements count x) ≡ length (preparation session) + length (drawn_statements count x) = length-append (preparation session) (drawn_statements count x) in
    let front : length (preparation session) ≤ 3 = prepared_few session in
    let rest : length (drawn_statements count x) ≡ count = counted count x in
    omega arith

-- ---- all sessions

sessions_counted : (number n count : ℕ) → length (generated number n count) ≡ n
unfolding generated
sessions_counted number zero count = refl
sessions_counted number (suc n) count =
    let s : SessionScript = session_of n count (number_past count n number) in
    let one : length (generated number n count ++ s ∷ []) ≡ length (generated number n count) + 1 = length-append (generated number n count) (s ∷ []) in
    let before : length (generated number n count) ≡ n = sessions_counted number n count in
    omega arith

asked : (number n count : ℕ) → count ≤ 10000 → sum_by (λ s. length s.statements) (generated number n count) ≤ n * 10003
unfolding generated
asked number zero count h = omega arith
asked number (suc n) count h =
    let s : SessionScript = session_of n count (number_past count n number) in
    let more : sum_by (λ r. length r.statements) (generated number n count ++ s ∷ []) ≡ sum_by (λ r. length r.statements) (generated number n count) + (0 + length s.statements) = sum_by-append (λ r. length r.statements) (generated number n count) (s ∷ []) in
    let own : length s.statements ≤ 10003 = session_few n count (number_past count n number) h in
    let before : sum_by (λ r. length r.statements) (generated number n count) ≤ n * 10003 = asked number n count h in
    omega arith

names_of : (number n count : ℕ) → map (λ s. s.name) (generated number n count) ≡ first_names n
unfolding generated first_names
names_of number zero count = refl
names_of number (suc n) count =
    let s : SessionScript = session_of n count (number_past count n number) in
    map-append (λ r. r.name) (generated number n count) (s ∷ []) ∙ ap (λ names. names ++ session_name n ∷ []) (names_of number n count)

each_within : (number n count : ℕ) → n ≤ 64 → list_all is_script_within (generated number n count) ≡ true
unfolding generated
each_within number zero count h = refl
each_within number (suc n) count h =
    push_all is_script_within (generated number n count) (session_of n count (number_past count n number))
    (each_within number n count (omega arith)) (session_within n count (number_past count n number) (omega arith))

each_ordered : (number n count : ℕ) → are_ordered (generated number n count) ≡ true
unfolding generated
each_ordered number zero count = refl
each_ordered number (suc n) count =
    let x = number_past count n number in
    push_all (λ s. list_all is_ordered s.statements) (generated number n count) (session_of n count x)
    (each_ordered number n count) (append_all is_ordered (preparation n) (drawn_statements count x) (prepared_ordered n) (all_ordered count x))

within : (number n count : ℕ) → n ≤ 64 → count ≤ 10000 → are_within (generated number n count) ≡ true
unfolding are_within
within number n count few short =
    let scripts : List SessionScript = generated number n count in
    let long : length scripts ≡ n = sessions_counted number n count in
    let total : statement_count scripts ≡ sum_by (λ s. length s.statements) scripts = sum-map (λ s. length s.statements) scripts in
    let bound : sum_by (λ s. length s.statements) scripts ≤ n * 10003 = asked number n count short in
    let sessions : nat_le (length scripts) SESSION_LIMIT ≡ true = le-leb (length scripts) 64 (omega arith) in
    let statements : nat_le (statement_count scripts) STATEMENT_LIMIT ≡ true = le-leb (statement_count scripts) 1000000 (omega arith) in
    let distinct : are_distinct bytes_eq (map (λ s. s.name) scripts) ≡ true = rw (names_of number n count) (names_distinct n few) in
    joined (nat_le (length scripts) SESSION_LIMIT && nat_le (statement_count scripts) STATEMENT_LIMIT && are_distinct bytes_eq (map (λ s. s.name) scripts)) (list_all is_script_within scripts)
    (joined (nat_le (length scripts) SESSION_LIMIT && nat_le (statement_count scripts) STATEMENT_LIMIT) (are_distinct bytes_eq (map (λ s. s.name) scripts))
    (joined (nat_le (length scripts) SESSION_LIMIT) (nat_le (statement_count scripts) STATEMENT_LIMIT) sessions statements) distinct)
    (each_within number n count few)

pub is_readable : (number n count : ℕ) → n ≤ 64 → count ≤ 10000 → AreReadable (generated number n count)
is_readable number n count few short =
    let long : length (generated number n count) ≡ n = sessions_counted number n count in
    record {
      few = omega arith;
      within = within number n count few short;
      ordered = each_ordered number n count;
    }
