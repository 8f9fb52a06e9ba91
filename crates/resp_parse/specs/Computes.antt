-- What a function of the parser answers: what a definition computes, or out of memory, which says
-- nothing of the bytes.
use Rattle.std.specs.Prelude.{◌≡◌, Result, Ok, Err}
use Rattle.resp_errors.specs.declared.kinds.FrameFault.{FrameFault}
use Rattle.resp_parse.specs.declared.read_error.ReadError.{ReadError}
use Rattle.resp_parse.specs.declared.read_error.ReadError.TheVariants.{Memory, Fault}

-- of something that is made: the same, or the same fault
abbrev pub Computes : {X : Type 0} → Result X ReadError → Result X FrameFault → Type 0
Computes (Ok x) r = r ≡ Ok x
Computes (Err Memory) r = Unit {0}
Computes (Err (Fault f)) r = r ≡ Err f
