-- What valid tables say of the numbers that a commit needs.
use Rattle.std.proofs.Common.{◌≡◌, ◌≤◌, ◌^◌, ℕ, ℤ, List, [], ◌∷◌, Bool, true, arith, All}
use Rattle.std.proofs.lemmas.Int.{ints}
use Rattle.std.specs.Prelude.{pos, negsuc, neg_ℤ, int_le}
use Rattle.std.specs.List.{list_all}
use Rattle.std.proofs.lemmas.Bool.{and_parts}
use Rattle.std.proofs.lemmas.List.Elements.{All-nil, All-cons}
use Rattle.queue_rows.specs.Valid.{is_valid, is_valid_queue, has_right_lowest}
use Rattle.queue_rows.specs.declared.tables.Tables.{Tables}
use Rattle.queue_rows.specs.declared.rows.QueueRow.{QueueRow}
use Rattle.valid_laws.specs.PendingLaws.{depth_of}
use Rattle.valid_laws.proofs.Parts.{and_l, and_r, parts_of}
use Rattle.valid_laws.proofs.Lowering.{numbers_of}
use Rattle.valid_laws.proofs.Completing.{depth_known}
use Rattle.sessions.specs.Numbers.{IsAbove, IsLowest}
use Rattle.dequeue_ops.specs.Given.{MayCommit}

all_of : {X : Type 0} (p : X → Bool) (P : X → Type 0) → ((x : X) → p x ≡ true → P x) → (xs : List X) → list_all p xs ≡ true → All P xs
all_of p P f [] h = All-nil P
all_of p P f (x ∷ xs) h = let parts = and_parts (p x) (list_all p xs) h in All-cons P x xs (f x parts.0) (all_of p P f xs parts.1)

above_by : (n : ℕ) (z : ℤ) → depth_of z ≤ n → IsAbove n z
above_by n (pos k) h = omega (arith, ints)
above_by n (negsuc k) h = omega (arith, ints)

above_in : (t : Tables) (z : ℤ) → is_valid t ≡ true → int_le (neg_ℤ (pos t.next)) z ≡ true → IsAbove (2 ^ 62) z
above_in t z v h = let d = depth_known t.next z h in let n : t.next ≤ 2 ^ 61 = (numbers_of t v).within in above_by (2 ^ 62) z (omega (arith, d, n))

lowest_part : (t : Tables) (queue : QueueRow) → is_valid_queue t queue ≡ true → has_right_lowest t queue ≡ true
lowest_part t queue h = search (and_l, and_r)

lowest_in : (t : Tables) (queue : QueueRow) → is_valid_queue t queue ≡ true → int_le (neg_ℤ (pos t.next)) queue.lowest ≡ true
lowest_in t queue h = (and_parts (int_le queue.lowest (pos 0)) (int_le (neg_ℤ (pos t.next)) queue.lowest) (lowest_part t queue h)).1

-- a commit can be made in valid tables
pub may_commit : (t : Tables) (moment : ℕ) → is_valid t ≡ true → moment ≤ 2 ^ 62 → MayCommit t moment
may_commit t moment v most =
    let n : t.next ≤ 2 ^ 61 = (numbers_of t v).within in
    let g = (numbers_of t v).below in
    record {
      moment_is = most;
      group = omega (arith, n, g);
      lowest = all_of (is_valid_queue t) (IsLowest (2 ^ 62)) (λ queue h. above_in t queue.lowest v (lowest_in t queue h)) t.queues (parts_of t v).queues;
    }
