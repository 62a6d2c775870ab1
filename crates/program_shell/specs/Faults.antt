-- The fault of a command line for an error of the parser.
use Rattle.std.specs.Prelude.{◌≢◌}
use Rattle.clap.specs.Values.{kind_of}
use Rattle.clap.specs.declared.error.Error.{Error}
use Rattle.clap.specs.declared.error.kind.ErrorKind.{ErrorKind}
use Rattle.clap.specs.declared.error.kind.ErrorKind.TheVariants.{OutOfMemory}
use Rattle.program_shell.specs.declared.fault.LineFault.{LineFault}
use Rattle.program_shell.specs.declared.fault.LineFault.TheVariants.{Memory, Line}

-- the fault for a parser's error of this kind: out of memory is a fault of its own, and any other
-- error is kept in the fault
abbrev pub told_by_kind : ErrorKind → Error → LineFault
told_by_kind OutOfMemory error = Memory
told_by_kind kind error = Line error

-- memory ran out, or the fault is another error of the parser, whose kind has this property
abbrev pub IsErrorOf : (ErrorKind → Type 0) → LineFault → Type 0
IsErrorOf P Memory = Unit {0}
IsErrorOf P (Line error) = P (kind_of error) × (kind_of error ≢ OutOfMemory)
IsErrorOf P fault = ⊥
