-- How the text of an answer grows row by row.
use Rattle.std.proofs.Common.{add-one, ◌≡◌, ◌+◌, ℕ, List, Bool, ◌++◌}
use Rattle.std.specs.Global.{Vec}
use Rattle.records.specs.Lines.{Grows}
use Rattle.records.proofs.LineFacts.{grows_none, grows_both}
use Rattle.audit_files.specs.Rows.{withdrawn_row, withdrawn_rows}

-- a text that grew by four texts, one after another, grew by the four together
pub grows_four : (a b c d e : Vec ℕ) (w x y z : List ℕ) → Grows a b w → Grows b c x → Grows c d y → Grows d e z → Grows a e (w ++ (x ++ (y ++ z)))
grows_four a b c d e w x y z h k l m = grows_both a b e w _ h (grows_both b c e x _ k (grows_both c d e y z l m))

-- a text that grew by six texts, one after another, grew by the six together
pub grows_six : (a b c d e f g : Vec ℕ) (u v w x y z : List ℕ) → Grows a b u → Grows b c v → Grows c d w → Grows d e x → Grows e f y → Grows f g z
    → Grows a g (u ++ (v ++ (w ++ (x ++ (y ++ z)))))
grows_six a b c d e f g u v w x y z h k l m n o = grows_both a b g u _ h (grows_both b c g v _ k (grows_four c d e f g w x y z l m n o))

-- among no members there are no rows of withdrawn members
pub withdrawn_none : (side : List ℕ) (name : ℕ → List ℕ) (flags : List Bool) (a : Vec ℕ) → Grows a a (withdrawn_rows side name flags 0)
unfolding withdrawn_rows
withdrawn_none side name flags a = grows_none a

-- the rows of the withdrawn members among the first n + 1 are the rows of those among the first n,
-- followed by member n's row if member n is withdrawn
pub withdrawn_more : (side : List ℕ) (name : ℕ → List ℕ) (flags : List Bool) (n : ℕ) (a b c : Vec ℕ)
    → Grows a b (withdrawn_rows side name flags n) → Grows b c (withdrawn_row side name flags n) → Grows a c (withdrawn_rows side name flags (n + 1))
unfolding withdrawn_rows
withdrawn_more side name flags n a b c h k = rw add-one (grows_both a b c _ _ h k)
