use Rattle.std.proofs.Common.{arith}
use Rattle.match_model.proofs.Parted.{length-parted}
use Rattle.match_model.proofs.rows.Rows.len.Goals as goal

pub returns : goal.returns
returns g c = rw (← c.self.view_is) (omega (arith, c.len.ensures, length-parted 0 c.self.inside.ends.items c.self.inside.items.items))
