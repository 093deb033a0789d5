-- Draws: numbers that follow from one another, so that the same first number gives the same draws.
use Rattle.std.specs.Prelude.{ℕ, ◌+◌, ◌*◌, ◌/◌, ◌%◌, ◌^◌}

-- the number that follows a number
unfoldable pub next_number : ℕ → ℕ
next_number x = (x * 6364136223846793005 + 1442695040888963407) % 2 ^ 64

-- the draw that a number gives: its upper 31 bits
abbrev pub draw_of : ℕ → ℕ
draw_of x = x / 2 ^ 33
