use Rattle.docket_names.specs.Words.{is_name_byte}
use Rattle.docket_names.proofs.FourFacts.{four_tell}
use Rattle.docket_names.proofs.words.has_four_at.Goals as goal

pub returns : goal.returns
returns c =
    rw (c.is_name_byte-first_fits.ensures, c.is_name_byte-second_fits.ensures, c.is_name_byte-third_fits.ensures, c.is_name_byte-fourth_fits.ensures)
    (four_tell is_name_byte c.args.text.now c.args.i c.requires)
