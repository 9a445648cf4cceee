-- The words that commands over tables share, and what they ask for.
use Rattle.std.specs.Prelude.{ℕ, Bool, true, ◌&&◌, List, [], ◌∷◌, Option, Some, None, codes}
use Rattle.std.specs.Prelude.{if◌then◌else◌, nat_le, option_and_then, option_map}
use Rattle.std.specs.Option.{option_map_or}
use Rattle.std.specs.Str.{all_ascii_digits}
use Rattle.std.specs.Str.Parse.{digits_value}
use Rattle.clap.specs.Lexer.{usize_max}
use Rattle.clap.specs.Faults.{fault_of}
use Rattle.clap.specs.Simple.{App, Shape, new_rule, new_shape, subcommand_of}
use Rattle.clap.specs.Takes.{is_given}
use Rattle.clap.specs.Walk.{Row, Rule, Text, all_of, first_of, is_empty}
use Rattle.clap.specs.declared.builder.ArgAction.TheVariants.{Append, Set, SetTrue}

-- ---- forms

-- `--hex`
abbrev pub hex_rule : Rule
hex_rule = record (new_rule (codes "hex")) { long = Some (codes "hex"); action = Some SetTrue }

-- `--depth NUMBER`
abbrev pub depth_rule : Rule
depth_rule = record (new_rule (codes "depth")) { long = Some (codes "depth"); action = Some Set }

-- the path of an object
abbrev pub path_rule : Rule
path_rule = record (new_rule (codes "path")) { required = true }

-- the file that is written
abbrev pub out_rule : Rule
out_rule = record (new_rule (codes "out")) { required = true }

-- one file or more
abbrev pub file_rule : Rule
file_rule = record (new_rule (codes "file")) {
  required = true;
  range = Some (record { start_inclusive = 1; end_inclusive = usize_max });
  action = Some Append;
}

-- a command over files
abbrev pub files_shape : Text → Shape
files_shape name = record (new_shape name) { rules = hex_rule ∷ depth_rule ∷ file_rule ∷ [] }

-- .. with a path: the first word that is no option, and the others are files
abbrev pub path_shape : Text → Shape
path_shape name =
    record (new_shape name) { rules = hex_rule ∷ depth_rule ∷ path_rule ∷ file_rule ∷ [] }

-- .. with the file that is written: the first word that is no option, and the others are read
abbrev pub out_shape : Text → Shape
out_shape name =
    record (new_shape name) { rules = hex_rule ∷ depth_rule ∷ out_rule ∷ file_rule ∷ [] }

-- a program: a subcommand is wanted, and there is no help and no version to ask for
abbrev pub program_shape : Text → Shape
program_shape name = record (new_shape name) {
  no_binary_name = true;
  disable_help_flag = true;
  disable_version_flag = true;
  disable_help_subcommand = true;
  subcommand_required = true;
}

-- a command with no subcommand
abbrev pub alone : Shape → App
alone shape = record { top = shape; subs = [] }

-- ---- what words ask for

-- a command over a list of tables: whether their files are hexadecimal text, how many levels terms
-- may have, and the files
pub record Asked (C : Type 0) : Type 0 where
  pub command : C
  pub hex : Bool
  pub depth : ℕ
  pub files : List Text

-- decimal digits of a number from 1 to 4,096
abbrev pub is_depth : List ℕ → Bool
is_depth text = all_ascii_digits text
    && (nat_le 1 (digits_value 10 text) && nat_le (digits_value 10 text) 4096)

abbrev pub depth_said : List ℕ → Option ℕ
depth_said text = if is_depth text then Some (digits_value 10 text) else None

-- 1,024 where no word says the depth
abbrev pub depth_or_usual : Option Text → Option ℕ
depth_or_usual said = option_map_or depth_said said (Some 1024)

-- the name of the subcommand and what clap found for it; nothing, where clap finds a fault in the words
unfoldable pub found_in : App → List Text → Option (Text × List Row)
found_in app words = if is_empty (fault_of app words) then subcommand_of app words else None

module _ {C : Type 0} where
  -- what clap found: the command, `--hex`, the value of `--depth`, and the files
  abbrev pub asked_by : (Text → List Row → Option C) → Text → List Row → Option (Asked C)
  asked_by command_by name rows =
      option_and_then (λ command. option_and_then (λ depth. option_map (λ files. record {
        command = command;
        hex = is_given (codes "hex") rows;
        depth = depth;
        files = files;
      }) (all_of (codes "file") rows))
      (depth_or_usual (first_of (codes "depth") rows)))
      (command_by name rows)

  abbrev pub asked_of : App → (Text → List Row → Option C) → List Text → Option (Asked C)
  asked_of app command_by words =
      option_and_then (λ found. asked_by command_by found.0 found.1) (found_in app words)
