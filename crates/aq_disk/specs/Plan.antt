use Rattle.std.specs.Prelude.{◌⊎◌, ℕ, ◌<◌, List, Contains, Option, IsSomeAnd}

-- a call is set to fail: it is listed, or past the fuse
abbrev pub IsSetToFail : List ℕ → Option ℕ → ℕ → Type 0
IsSetToFail failing fuse call = Contains failing call ⊎ IsSomeAnd fuse (λ last. last < call)
