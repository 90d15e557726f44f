-- A path as one number: a leading 1, and then each step in a field of so many bits.
use Rattle.std.specs.Prelude.{◌≡◌, ℕ, ◌+◌, ◌*◌, ◌^◌, ◌<◌, ◌≤◌, List, All, Option, Some, None, fold, length, nat_le, if◌then◌else◌, MatchOption}
use Rattle.msl_base.specs.declared.limits.TheConstants.{MOST_PATH_BITS}

-- code [] = 1, and code (q ++ j ∷ []) = code q * 2 ^ bits + j
abbrev pub code : ℕ → List ℕ → ℕ
code bits path = fold (λ c j. c * 2 ^ bits + j) 1 path

-- each step has a field
abbrev pub AreFields : ℕ → List ℕ → Type 0
AreFields bits path = All (λ step. step < 2 ^ bits) path

-- and so have all of them in one word
pub record HasCode (bits : ℕ) (path : List ℕ) : Type 0 where
  pub steps : AreFields bits path
  pub fits : length path * bits ≤ MOST_PATH_BITS

abbrev pub code_of : ℕ → List ℕ → Option ℕ
code_of bits path = if nat_le (length path * bits) MOST_PATH_BITS then Some (code bits path) else None

-- the path with this code, or none where no path has it
abbrev pub Decodes : ℕ → ℕ → Option (List ℕ) → Type 0
Decodes bits c found =
    MatchOption found ((path : List ℕ) → HasCode bits path → code bits path ≡ c → ⊥) (λ path. HasCode bits path × (code bits path ≡ c))
