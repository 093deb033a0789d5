-- What a view becomes at each step.
use Rattle.std.specs.Prelude.{ℕ, List, [], ◌∷◌, ◌++◌, length, Contains, drop, true, false, Some, None}
use Rattle.turnstile.specs.declared.rule.View.{View}
use Rattle.turnstile.specs.Entries.{longer}

module _ {O E : Type 0} where
  -- the first pass at the start
  abbrev pub first_view : ℕ → O → View O E
  first_view a start = record { actor = a; first = true; holds = false; out = false; opening = Some start; seen = []; told = []; own = []; home = []; made = []; joined = [] }

  -- what is left of a pass that was joined
  abbrev pub spent_view : View O E
  spent_view = record { actor = 0; first = false; holds = false; out = false; opening = None; seen = []; told = []; own = []; home = []; made = []; joined = [] }

  -- the first pass has made the number a
  abbrev pub with_made : View O E → ℕ → View O E
  with_made v a = record v { made = v.made ++ a ∷ [] }

  -- a new pass with the number a has seen what v has, and has no entry of its own
  abbrev pub new_view : View O E → ℕ → View O E
  new_view v a = record { actor = a; first = false; holds = false; out = false; opening = v.opening; seen = v.seen; told = []; own = []; home = []; made = []; joined = [] }

  -- the first pass has joined w, and was told what w has seen
  abbrev pub with_joined : View O E → View O E → View O E
  with_joined v w = record v { told = w.seen; joined = v.joined ++ (w.actor, w.own) ∷ [] }

  -- it has seen the longer of the two lists
  abbrev pub with_longer : View O E → View O E
  with_longer v = record v { seen = longer v.seen v.told; told = [] }

  -- the turn is v's. It has seen the list, which is at home
  abbrev pub entered : View O E → List E → View O E
  entered v log = record v { holds = true; out = false; seen = log; home = log }

  -- the value is out
  abbrev pub taken_out : View O E → View O E
  taken_out v = record v { out = true }

  -- the value that comes home has these entries
  abbrev pub announced : View O E → List E → View O E
  announced v log = record v { home = log }

  -- the value is at home
  abbrev pub put_in : View O E → View O E
  put_in v = record v { out = false }

  -- the turn is over: the list at home is seen, and what is new in it is v's own
  abbrev pub left : View O E → View O E
  left v = record v { holds = false; out = false; seen = v.home; own = v.own ++ drop (length v.seen) v.home; home = [] }

  -- the first pass has joined the number
  abbrev pub HasJoined : View O E → ℕ → Type 0
  HasJoined v n = (own : List E) × Contains v.joined (n, own)
