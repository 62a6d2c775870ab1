use Rattle.std.proofs.Common.{◌≡◌, map, take, true}
use Rattle.std.specs.List.{list_all}
use Rattle.docket.specs.ListPass.{is_member, member_at}
use Rattle.docket.proofs.passes.ranking.listed_residents.Given as goal

abbrev pub invariant-loop-name : goal.invariant-loop-name
invariant-loop-name l = (l.list_buffer.items ≡ map (member_at l.residents) (take l.name-index l.name_numbers)) × (list_all (is_member l.residents) (take l.name-index l.name_numbers) ≡ true)
