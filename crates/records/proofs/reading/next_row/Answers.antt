use Rattle.std.proofs.Common.{◌∙◌, sym, ap}
use Rattle.csv.specs.Records.{fields_of}
use Rattle.records.specs.Reading.{marked}
use Rattle.records.proofs.ReadFacts.{gives_row}
use Rattle.records.proofs.reading.next_row.Goals as goal

pub returns-in-Ok-clause-reading : goal.returns-in-Ok-clause-reading
returns-in-Ok-clause-reading g c found =
    let read = rw c.in-Ok.is at c.read_byte_record-read_result.ensures.reads_on in
    let goes = rw c.in-Ok.is at c.read_byte_record-read_result.ensures.goes in
    let on = read found in
    let was = c.requires.reading in
    record {
      config = on.0 ∙ was.config ∙ ap (λ s. marked s.delimiter) (sym on.0);
      trim = on.1 ∙ was.trim;
      flexible = on.2 ∙ was.flexible;
      works = goes ∙ was.works;
      ready = (on.4 was.ready).0;
    }

pub returns-in-Ok-clause-reads : goal.returns-in-Ok-clause-reads
returns-in-Ok-clause-reads g c =
    let reads = rw c.in-Ok.is at c.read_byte_record-read_result.ensures.reads in
    reads c.requires.reading.trim c.requires.reading.ready

pub returns-in-Ok-clause-gives : goal.returns-in-Ok-clause-gives
returns-in-Ok-clause-gives g c =
    let reads = rw c.in-Ok.is at c.read_byte_record-read_result.ensures.reads in
    let was = c.requires.reading in
    gives_row g.R.Read.remaining c.args.reader.now c.read_byte_record-read_result.new.self c.in-Ok.has_row (fields_of c.read_byte_record-read_result.new.row) was.config (reads was.trim was.ready)
