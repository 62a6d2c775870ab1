-- The form in which the code keeps a name that is found by its text.
use Rattle.std.specs.Prelude.{◌≡◌, ◌≤◌, ◌-◌, ◌++◌, ℕ, nat_le, if◌then◌else◌, List, length, take, replicate}
use Rattle.docket_names.specs.declared.name_key.TheConstants.{MAX_NAME}

-- a text followed by zeros, up to the length of the longest name
unfoldable pub filled : List ℕ → List ℕ
filled text = text ++ replicate (MAX_NAME - length text) 0

-- the bytes are a text of length `len`, followed by zeros up to the length of the longest name
pub record IsFilled (len : ℕ) (bytes : List ℕ) : Type 0 where
  pub fits : len ≤ MAX_NAME
  pub filled_up : bytes ≡ filled (take len bytes)

-- how many bytes are hashed for a text of length n
abbrev pub width_hashed : ℕ → ℕ
width_hashed n = if nat_le n 8 then 8 else if nat_le n 16 then 16 else MAX_NAME

-- the bytes that are hashed for a text: the text, followed by zeros
abbrev pub hashed : List ℕ → List ℕ
hashed text = take (width_hashed (length text)) (filled text)
