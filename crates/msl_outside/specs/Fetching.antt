-- What a fetch of a file gives.
use Rattle.std.specs.Prelude.{ℕ, ◌≡◌, ◌<◌, ◌≤◌, ◌+◌, ◌-◌, ◌^◌, ◌⊎◌, min, List, [], ◌∷◌, ◌++◌, Option, Some, None, length, if◌then◌else◌, ⊤}
use Rattle.std.specs.Str.{bytes_eq}
use Rattle.msl_outside.specs.Causes.{Rose}
use Rattle.msl_outside.specs.declared.memory.File.{File}
use Rattle.msl_outside.specs.declared.outside.Fetched.{Fetched}
use Rattle.msl_outside.specs.declared.outside.Fetched.TheVariants.{Bytes, Long, Failed, NoMemory}

-- the bytes of the first file of a name
abbrev pub bytes_under : List File → List ℕ → Option (List ℕ)
bytes_under [] name = None
bytes_under (file ∷ files) name = if bytes_eq file.name name then Some file.bytes else bytes_under files name

abbrev pub FileIs : Option (List ℕ) → List ℕ → Type 0
FileIs None bytes = ⊤
FileIs (Some file) bytes = bytes ≡ file

abbrev pub IsLonger : Option (List ℕ) → ℕ → Type 0
IsLonger None limit = ⊤
IsLonger (Some file) limit = limit < length file

-- the bytes are within the limit, and those of the file where it is told; or the file is longer
abbrev pub Fetches : Option (List ℕ) → ℕ → Fetched → Type 0
Fetches file limit (Bytes bytes) = (length bytes ≤ limit) × FileIs file bytes
Fetches file limit Long = IsLonger file limit
Fetches file limit Failed = ⊤
Fetches file limit NoMemory = ⊤

-- the count rose where the fetch failed, and is as before where it did not
abbrev pub FetchCause : ℕ → ℕ → Fetched → Type 0
FetchCause before now (Bytes bytes) = now ≡ before
FetchCause before now Long = now ≡ before
FetchCause before now Failed = Rose before now
FetchCause before now NoMemory = now ≡ before

-- the same of a count that rises by one
abbrev pub FetchCounts : ℕ → ℕ → Fetched → Type 0
FetchCounts before now (Bytes bytes) = now ≡ before
FetchCounts before now Long = now ≡ before
FetchCounts before now Failed = now ≡ min (before + 1) (2 ^ 64 - 1)
FetchCounts before now NoMemory = now ≡ before

-- No name but this was asked for, behind those before. A fetch that gives no file may leave it out.
abbrev pub Asks : List ℕ → Fetched → List (List ℕ) → List (List ℕ) → Type 0
Asks name (Bytes bytes) before now = now ≡ before ++ name ∷ []
Asks name Long before now = now ≡ before ++ name ∷ []
Asks name Failed before now = (now ≡ before) ⊎ (now ≡ before ++ name ∷ [])
Asks name NoMemory before now = (now ≡ before) ⊎ (now ≡ before ++ name ∷ [])
