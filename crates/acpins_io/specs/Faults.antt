-- Why a file can't be had.
use Rattle.std.specs.Prelude.{◌≡◌, ℕ, zero, suc, Option, Some, None}
use Rattle.std.specs.declared.io.ErrorKind.{ErrorKind}
use Rattle.std.specs.declared.io.ErrorKind.TheVariants.{OutOfMemory}
use Rattle.acpins_io.specs.declared.files.FileFault.{FileFault}
use Rattle.acpins_io.specs.declared.files.FileFault.TheVariants.{Host, Memory}

-- what an error of the host is, by its kind
abbrev pub fault_of : ErrorKind → FileFault
fault_of OutOfMemory = Memory
fault_of kind = Host kind

-- ---- the kind of the error with which something failed last

-- the fault is that error, or that there is no memory
abbrev pub IsLastError : FileFault → Option ErrorKind → Type 0
IsLastError (Host kind) last = last ≡ Some kind
IsLastError Memory last = Unit {0}

-- of a file of which so many reads failed, the last one with this kind
abbrev pub error_of : ℕ → ErrorKind → Option ErrorKind
error_of zero kind = None
error_of (suc failures) kind = Some kind
