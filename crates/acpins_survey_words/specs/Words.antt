-- The arguments that follow the program's name, and what they ask for.
use Rattle.std.specs.Prelude.{Bool, true, ◌&&◌, ◌||◌, nat_le, List, [], ◌∷◌, ◌++◌, Option, Some, None, codes, if◌then◌else◌, nat_eq, option_and_then, option_map, unwrap_or}
use Rattle.std.specs.List.{before_first, list_any, starts_with}
use Rattle.std.specs.Option.{option_map_or}
use Rattle.std.specs.Str.{all_ascii_digits, bytes_eq}
use Rattle.std.specs.Str.Parse.{digits_value}
use Rattle.clap.specs.Simple.{App, Shape, new_rule, with_subcommand}
use Rattle.clap.specs.Takes.{is_given}
use Rattle.clap.specs.Walk.{Row, Rule, Text, all_of, first_of, texts}
use Rattle.clap.specs.declared.builder.ArgAction.TheVariants.{Append, Set, SetTrue}
use Rattle.acpi_check_ids.specs.Ids.{id_of}
use Rattle.acpi_check_ids.specs.declared.ids.CheckId.{CheckId}
use Rattle.acpins_words.specs.Arguments as arguments
use Rattle.acpins_words.specs.Arguments.{alone, files_shape, out_shape, path_shape, program_shape}
use Rattle.acpins_survey_words.specs.declared.words.Command.{Command as CommandWords}
use Rattle.acpins_survey_words.specs.declared.words.Command.TheVariants as read
use Rattle.acpins_survey_words.specs.declared.words.Request.{Request}
use Rattle.acpins_survey_words.specs.declared.words.Topic.{Topic}
use Rattle.acpins_survey_words.specs.declared.words.Topic.TheVariants as topics
use Rattle.acpins_survey_words.specs.declared.words.Invocation.{Invocation as InvocationWords}
use Rattle.acpins_survey_words.specs.declared.words.Invocation.TheVariants as invocations

-- `-v`
abbrev pub verbose_rule : Rule
verbose_rule = record (new_rule (codes "verbose")) { short = Some 118; action = Some SetTrue }

-- `--bodies`
abbrev pub bodies_rule : Rule
bodies_rule =
    record (new_rule (codes "bodies")) { long = Some (codes "bodies"); action = Some SetTrue }

-- a command over files, with `--bodies`
abbrev pub list_shape : Shape
list_shape =
    let files = files_shape (codes "list") in
    record files { rules = files.rules ++ bodies_rule ∷ [] }

-- `--ignore ID`, any number of times
abbrev pub ignore_rule : Rule
ignore_rule =
    record (new_rule (codes "ignore")) { long = Some (codes "ignore"); action = Some Append }

-- a command over files, with `-v` and `--ignore ID`
abbrev pub check_shape : Shape
check_shape =
    let files = files_shape (codes "check") in
    record files { rules = (files.rules ++ verbose_rule ∷ []) ++ ignore_rule ∷ [] }

-- a command over files, with `-v`
abbrev pub verbose_shape : Text → Shape
verbose_shape name =
    let files = files_shape name in
    record files { rules = files.rules ++ verbose_rule ∷ [] }

-- `--width NUMBER`
abbrev pub width_rule : Rule
width_rule = record (new_rule (codes "width")) { long = Some (codes "width"); action = Some Set }

-- a command over files, with `-v` and `--width NUMBER`
abbrev pub report_shape : Shape
report_shape =
    let files = files_shape (codes "report") in
    record files { rules = (files.rules ++ verbose_rule ∷ []) ++ width_rule ∷ [] }

-- the command, as clap reads it
abbrev pub survey_app : App
survey_app =
    let list = with_subcommand (alone (program_shape (codes "acpins-survey")))
    list_shape in
    let show = with_subcommand list (path_shape (codes "show")) in
    let uses = with_subcommand show (files_shape (codes "uses")) in
    let map = with_subcommand uses (files_shape (codes "map")) in
    let bodies = with_subcommand map (files_shape (codes "bodies")) in
    let check = with_subcommand bodies check_shape in
    let diff = with_subcommand check (verbose_shape (codes "diff")) in
    let report = with_subcommand diff report_shape in
    let json = with_subcommand report (files_shape (codes "json")) in
    with_subcommand json (out_shape (codes "html"))

-- what is made of the survey of tables: the listing, with what methods declare or not; the objects at the path that a
-- text spells; the uses of such a path, or of all; the map of the bytes; the methods; what a check finds, unfolded or
-- not, but for findings of these ids; what differs between two machines, unfolded or not; the report, unfolded or not;
-- JSON; a page, in the file of a name
pub data Command : Type 0 where
  listing : Bool → Command
  showing : Text → Command
  using : Option Text → Command
  mapping : Command
  telling_bodies : Command
  checking : Bool → List CheckId → Command
  differing : Bool → Command
  reporting : Bool → Command
  json : Command
  paging : Text → Command

abbrev pub Asked : Type 0
Asked = arguments.Asked Command

-- how the program is called, which one it is, or a survey
pub data Invocation : Type 0 where
  help : Topic → Invocation
  version : Invocation
  survey : Asked → Invocation

-- ---- help

-- what help is about, behind the name of a command
abbrev pub topic_of : Text → Option Topic
topic_of name =
    if bytes_eq name (codes "list") then Some topics.List
    else (if bytes_eq name (codes "show") then Some topics.Show
    else (if bytes_eq name (codes "uses") then Some topics.Uses
    else (if bytes_eq name (codes "map") then Some topics.Map
    else (if bytes_eq name (codes "bodies") then Some topics.Bodies
    else (if bytes_eq name (codes "check") then Some topics.Check
    else (if bytes_eq name (codes "diff") then Some topics.Diff
    else (if bytes_eq name (codes "report") then Some topics.Report
    else (if bytes_eq name (codes "json") then Some topics.Json
    else (if bytes_eq name (codes "html") then Some topics.Html
    else None)))))))))

-- what help is about among these arguments: the command that the first names, or else the program
abbrev pub topic_in : List Text → Topic
topic_in [] = topics.Program
topic_in (name ∷ _) = unwrap_or (topic_of name) topics.Program

-- `--help` or `-h`
abbrev pub is_help : Text → Bool
is_help word = bytes_eq word (codes "--help") || bytes_eq word (codes "-h")

-- `--`, which ends the options
abbrev pub is_end : Text → Bool
is_end word = bytes_eq word (codes "--")

-- some argument before `--` is `--help` or `-h`
abbrev pub asks_help : List Text → Bool
asks_help words = list_any is_help (before_first is_end words)

-- `help` or `--version`
abbrev pub lone_invocation : Text → Option Invocation
lone_invocation word =
    if bytes_eq word (codes "help") then Some (help topics.Program)
    else (if bytes_eq word (codes "--version") then Some version else None)

-- .. or `help` and the name of a command
abbrev pub named_invocation : List Text → Option Invocation
named_invocation (word ∷ []) = lone_invocation word
named_invocation (word ∷ name ∷ []) =
    if bytes_eq word (codes "help") then option_map help (topic_of name) else None
named_invocation _ = None

-- the help or the version that arguments ask for
abbrev pub help_in : List Text → Option Invocation
help_in words =
    if asks_help words then Some (help (topic_in words)) else named_invocation words

-- ---- a survey

-- a word begins with `\`, as paths do
abbrev pub is_rooted : Text → Bool
is_rooted word = starts_with nat_eq word (codes "\\")

-- a first operand, where it begins so
abbrev pub path_first : Option Text → Option Text
path_first (Some word) = if is_rooted word then Some word else None
path_first None = None

-- the ids that texts spell; nothing, where one is no id
unfoldable pub ids_of : List Text → Option (List CheckId)
ids_of [] = Some []
ids_of (text ∷ texts) =
    option_and_then (λ id. option_map (λ ids. id ∷ ids) (ids_of texts)) (id_of text)

-- the ids that stand behind `--ignore`
abbrev pub ignored_by : List Row → Option (List CheckId)
ignored_by rows = ids_of (unwrap_or (all_of (codes "ignore") rows) [])

-- the check, with what stands there
abbrev pub check_by : List Row → Option Command
check_by rows = option_map (checking (is_given (codes "verbose") rows)) (ignored_by rows)

-- decimal digits of a number from 60 to 1,000
abbrev pub is_width : Text → Bool
is_width text =
    all_ascii_digits text
    && (nat_le 60 (digits_value 10 text) && nat_le (digits_value 10 text) 1000)

-- the width that stands behind `--width`, which is one, or none
abbrev pub has_width : Option Text → Bool
has_width said = option_map_or is_width said true

-- the report, with what stands there
abbrev pub report_by : List Row → Option Command
report_by rows =
    if has_width (first_of (codes "width") rows)
    then Some (reporting (is_given (codes "verbose") rows)) else None

-- the command of this name that isn't `check`; for `show` the text that stands as PATH, for `html` that which stands as OUT, for `uses` the
-- first operand, where that begins with `\`
abbrev pub plain_command : Text → List Row → Option Command
plain_command name rows =
    if bytes_eq name (codes "list") then Some (listing (is_given (codes "bodies") rows))
    else (if bytes_eq name (codes "show") then option_map showing (first_of (codes "path") rows)
    else (if bytes_eq name (codes "uses")
    then Some (using (path_first (first_of (codes "file") rows)))
    else (if bytes_eq name (codes "map") then Some mapping
    else (if bytes_eq name (codes "bodies") then Some telling_bodies
    else (if bytes_eq name (codes "diff") then Some (differing (is_given (codes "verbose") rows))
    else (if bytes_eq name (codes "report") then report_by rows
    else (if bytes_eq name (codes "json") then Some json
    else (if bytes_eq name (codes "html") then option_map paging (first_of (codes "out") rows)
    else None))))))))

-- the command of this name
abbrev pub command_by : Text → List Row → Option Command
command_by name rows =
    if bytes_eq name (codes "check") then check_by rows else plain_command name rows

-- the files among the operands of a command: of `uses PATH` those behind PATH, at least one; of `diff` all, which are two
abbrev pub files_behind : Command → List Text → Option (List Text)
files_behind (using (Some path)) (_ ∷ file ∷ files) = Some (file ∷ files)
files_behind (using (Some path)) _ = None
files_behind (differing is_verbose) (old ∷ new ∷ []) = Some (old ∷ new ∷ [])
files_behind (differing is_verbose) _ = None
files_behind _ operands = Some operands

-- what is asked, where all operands stand as files
abbrev pub with_files : Asked → Option Asked
with_files asked =
    option_map (λ files. record asked { files = files }) (files_behind asked.command asked.files)

-- nothing, where clap finds a fault in the arguments, or where no file stands behind PATH
unfoldable pub asked_of : List Text → Option Asked
asked_of words = option_and_then with_files (arguments.asked_of survey_app command_by words)

-- ---- what arguments ask for

abbrev pub invocation_or : Option Invocation → List Text → Option Invocation
invocation_or (Some invocation) words = Some invocation
invocation_or None words = option_map survey (asked_of words)

abbrev pub invocation_of : List Text → Option Invocation
invocation_of words = invocation_or (help_in words) words

abbrev pub command_in : CommandWords → Command
command_in (read.List has_bodies) = listing has_bodies
command_in (read.Show path) = showing path.now
command_in (read.Uses path) = using (option_map (λ word. word.now) path)
command_in read.Map = mapping
command_in read.Bodies = telling_bodies
command_in (read.Check is_verbose ignored) = checking is_verbose ignored.items
command_in (read.Diff is_verbose) = differing is_verbose
command_in (read.Report is_verbose width) = reporting is_verbose
command_in read.Json = json
command_in (read.Html out) = paging out.now

-- a request, as what it asks for
abbrev pub asked_in : Request → Asked
asked_in r = record {
  command = command_in r.command;
  hex = r.hex;
  depth = r.depth;
  files = texts r.files.items;
}

abbrev pub invocation_in : InvocationWords → Invocation
invocation_in (invocations.Help topic) = help topic
invocation_in invocations.Version = version
invocation_in (invocations.Survey request) = survey (asked_in request)
