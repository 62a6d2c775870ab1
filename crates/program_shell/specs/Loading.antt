-- The bytes that a program loads. No contract can say which bytes a file has.
use Rattle.std.specs.Prelude.{◌≡◌, ◌≢◌, ℕ, Option, Some, None, List, IfSome, codes}
use Rattle.clap.specs.Words.{Text}

-- if the bytes of standard input are known, they are these bytes
abbrev pub AreInput : Option (List ℕ) → List ℕ → Type 0
AreInput input bytes = IfSome input (λ known. bytes ≡ known)

-- if the path is `-`, these are the bytes of standard input; nothing is said of another path
abbrev pub AreBytesOf : Text → Option (List ℕ) → List ℕ → Type 0
AreBytesOf path input bytes = path ≡ codes "-" → AreInput input bytes

-- there are bytes exactly if a path is given; if this path is `-`, they are those of standard input
abbrev pub AreBytesIf : Option Text → Option (List ℕ) → Option (List ℕ) → Type 0
AreBytesIf None input bytes = bytes ≡ None
AreBytesIf (Some path) input None = ⊥
AreBytesIf (Some path) input (Some bytes) = AreBytesOf path input bytes

-- unless the path is `-`, nothing was read from standard input
abbrev pub KeepsInput : Text → Option (List ℕ) → Option (List ℕ) → Type 0
KeepsInput path old new = path ≢ codes "-" → new ≡ old
