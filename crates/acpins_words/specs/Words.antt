-- The words that follow the program's name, and what they ask for.
use Rattle.std.specs.Prelude.{List, Option, Some, None, codes, if◌then◌else◌, option_map}
use Rattle.std.specs.Str.{bytes_eq}
use Rattle.clap.specs.Simple.{App, with_subcommand}
use Rattle.clap.specs.Walk.{Row, first_of}
pub use Rattle.clap.specs.Walk.{Text, texts}
use Rattle.acpins_words.specs.Arguments as arguments
use Rattle.acpins_words.specs.Arguments.{alone, files_shape, out_shape, path_shape, program_shape}
use Rattle.acpins_words.specs.declared.words.Command.{Command as CommandWords}
use Rattle.acpins_words.specs.declared.words.Command.TheVariants as read
use Rattle.acpins_words.specs.declared.words.Request.{Request}

-- the command, as clap reads it
abbrev pub acpins_app : App
acpins_app =
    let list = with_subcommand (alone (program_shape (codes "acpins")))
    (files_shape (codes "list")) in
    let show = with_subcommand list (path_shape (codes "show")) in
    let check = with_subcommand show (files_shape (codes "check")) in
    with_subcommand check (out_shape (codes "rewrite"))

-- ---- what words ask for

-- what is made of tables: the listing of the objects; the object whose path a text spells; the verdict on the SSDTs;
-- the tables in their shortest spelling, in the file of a name
pub data Command : Type 0 where
  listing : Command
  showing : Text → Command
  checking : Command
  rewriting : Text → Command

-- the command of this name; for `show` the text that stands as PATH, and for `rewrite` the one that stands as OUT
abbrev pub command_by : Text → List Row → Option Command
command_by name rows =
    if bytes_eq name (codes "list") then Some listing
    else (if bytes_eq name (codes "show") then option_map showing (first_of (codes "path") rows)
    else (if bytes_eq name (codes "check") then Some checking
    else (if bytes_eq name (codes "rewrite") then option_map rewriting (first_of (codes "out") rows)
    else None)))

abbrev pub Asked : Type 0
Asked = arguments.Asked Command

-- nothing, where clap finds a fault in the words
unfoldable pub asked_of : List Text → Option Asked
asked_of = arguments.asked_of acpins_app command_by

abbrev pub command_in : CommandWords → Command
command_in read.List = listing
command_in (read.Show path) = showing path.now
command_in read.Check = checking
command_in (read.Rewrite out) = rewriting out.now

-- a request, as what it asks for
abbrev pub asked_in : Request → Asked
asked_in r = record {
  command = command_in r.command;
  hex = r.hex;
  depth = r.depth;
  files = texts r.files.items;
}
