-- Facts about the fields of a record.
use Rattle.std.proofs.Common.{◌≡◌, ℕ, zero, suc, [], ◌∷◌, get_or, refl}
use Rattle.csv.specs.Records.{field_at}
use Rattle.records.specs.Reading.{Fields, field}

-- field i of a record is item i of its list of fields, or an empty text
pub field-get_or : (row : Fields) (i : ℕ) → field row i ≡ get_or row i []
unfolding field field_at
field-get_or [] i = refl
field-get_or (f ∷ row) zero = refl
field-get_or (f ∷ row) (suc i) = field-get_or row i
