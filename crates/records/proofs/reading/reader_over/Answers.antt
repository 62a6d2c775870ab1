use Rattle.std.proofs.Common.{◌≡◌, rules}
use Rattle.csv.specs.Reading.{reader_config}
use Rattle.records.specs.Reading.{marked}
use Rattle.records.proofs.ReadFacts.{left_named}
use Rattle.records.proofs.reading.reader_over.Goals as goal

pub returns-clause-left : goal.returns-clause-left
returns-clause-left g c =
    let config : reader_config c.from_reader-reader.result ≡ marked c.args.delimiter = search rules in
    left_named g.R.Read.remaining c.from_reader-reader.result c.set_byte_headers.new.self c.args.delimiter (g.R.Read.remaining c.args.source) c.in-Ok.ensures.same config c.from_reader-reader.ensures.state
    c.from_reader-reader.ensures.source
