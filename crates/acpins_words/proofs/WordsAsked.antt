-- What words ask for, by what clap makes of them: of any command over tables.
use Rattle.std.proofs.Common.{◌≡◌, ◌∙◌, ◌⊎◌, inl, inr, ℕ, Bool, List, Option, Some, None, ap, refl, sym, codes}
use Rattle.std.specs.Prelude.{option_and_then, option_map}
use Rattle.clap.specs.Simple.{App}
use Rattle.clap.specs.Takes.{is_given}
use Rattle.clap.specs.Walk.{Row, Text, all_of, first_of, rows_of}
use Rattle.clap.specs.Matches.{first_value}
use Rattle.clap.specs.declared.parser.matches.Found.{Found}
use Rattle.clap.proofs.WalkLemmas.{first_value-rows}
use Rattle.acpins_words.specs.Arguments.{Asked, asked_by, asked_of, depth_or_usual, found_in}

-- a command that has the text which stands as `id`
pub has_text : {C : Type 0} (command_by : Text → List Row → Option C) (command : Text → C) (word id name : Text) (found : Found) (text : Option Text)
    → option_map command (first_of id (rows_of found)) ≡ command_by word (rows_of found) → name ≡ word → text ≡ first_value found id
    → option_map command text ≡ command_by name (rows_of found)
has_text command_by command word id name found text by is at =
    ap (option_map command) (at ∙ first_value-rows found id) ∙ by ∙ ap (λ n. command_by n (rows_of found)) (sym is)

-- forms that were made are the program's
module _ {C : Type 0} (app : App) (command_by : Text → List Row → Option C) {made : App} (is : made ≡ app) (words : List Text) where
  found_again : (found : Option (Text × List Row)) → found_in made words ≡ found → asked_of app command_by words ≡ option_and_then (λ f. asked_by command_by f.0 f.1) found
  found_again found e = ap (option_and_then (λ f. asked_by command_by f.0 f.1)) (ap (λ (a : App). found_in a words) (sym is) ∙ e)

  -- words with a fault ask for nothing
  pub faulty_words : found_in made words ≡ None → asked_of app command_by words ≡ None
  faulty_words none = found_again None none

  -- the others ask for what the rows of the subcommand say
  module _ {name : Text} {rows : List Row} (found : found_in made words ≡ Some (name, rows)) where
    asked_parts : (command : Option C) (hex : Bool) (depth : Option ℕ) (files : Option (List Text))
        → command ≡ command_by name rows → hex ≡ is_given (codes "hex") rows → depth ≡ depth_or_usual (first_of (codes "depth") rows) → files ≡ all_of (codes "file") rows
        → asked_of app command_by words ≡ option_and_then (λ c. option_and_then (λ d. option_map (λ fs. record { command = c; hex = hex; depth = d; files = fs }) files) depth) command
    asked_parts command hex depth files c h d f =
        found_again (Some (name, rows)) found
        ∙ sym (λ i. option_and_then (λ k. option_and_then (λ n. option_map (λ fs. record { command = k; hex = h i; depth = n; files = fs }) (f i)) (d i)) (c i))

    pub asked_is : (command : C) (hex : Bool) (depth : ℕ) (files : List Text)
        → Some command ≡ command_by name rows → hex ≡ is_given (codes "hex") rows → depth_or_usual (first_of (codes "depth") rows) ≡ Some depth → all_of (codes "file") rows ≡ Some files
        → asked_of app command_by words ≡ Some (record { command = command; hex = hex; depth = depth; files = files })
    asked_is command hex depth files c h d f = asked_parts (Some command) hex (Some depth) (Some files) c h (sym d) (sym f)

    pub no_command : None ≡ command_by name rows → asked_of app command_by words ≡ None
    no_command none = asked_parts None _ _ _ none refl refl refl

    pub no_arguments : (command : C) → Some command ≡ command_by name rows → (depth_or_usual (first_of (codes "depth") rows) ≡ None) ⊎ (all_of (codes "file") rows ≡ None)
        → asked_of app command_by words ≡ None
    no_arguments command c (inl none) = asked_parts (Some command) _ None _ c refl (sym none) refl
    no_arguments command c (inr none) = asked_parts (Some command) _ _ None c refl refl (sym none) ∙ go (depth_or_usual (first_of (codes "depth") rows))
      where
        nothing : Option (Asked C)
        nothing = None

        go : (o : Option ℕ) → option_and_then (λ d. nothing) o ≡ None
        go None = refl
        go (Some d) = refl
