-- What a survey stores, a run stores; why the tables of a machine aren't had.
use Rattle.std.proofs.Common.{◌≡◌, List, Some}
use Rattle.acpins_io.specs.Outputs.{FileBytes}
use Rattle.acpins_words.specs.Words.{Text}
use Rattle.acpins_survey_words.specs.Words.{Asked, invocation_of, survey}
use Rattle.acpins_survey_run.specs.Folders.{FolderNames}
use Rattle.acpins_survey_run.specs.Input.{LastErrors}
use Rattle.acpins_survey_run.specs.Runs.{AreNamesOf, Makes, StoresOutput}
use Rattle.acpins_survey_run.specs.steps.Refusals.{IsMachinesFault, IsStored, IsTablesFault}
use Rattle.acpins_survey_run.specs.declared.failure.Failure.{Failure}
use Rattle.acpins_survey_run.specs.declared.failure.Failure.TheVariants.{WrongArguments, NotUtf8, BadPath, NoSuchPath, NoTable, Read, BadHex, HoldsTables, Out, Output, Memory}

pub survey_stores : (files : FileBytes) (folders : FolderNames) (makes : Makes) (words : List Text) (asked : Asked) (old new : FileBytes) → invocation_of words ≡ Some (survey asked)
    → IsStored files folders makes asked old new → StoresOutput files folders makes words old new
survey_stores files folders makes words asked old new is h = (survey asked, h.0, h.1, is, h.2, h.3)

pub machines_fault : (files : FileBytes) (folders : FolderNames) (last : LastErrors) (asked : Asked) (names : List Text) (failure : Failure) → AreNamesOf asked names
    → IsTablesFault files folders last asked names failure → IsMachinesFault files folders last asked failure
machines_fault files folders last asked names (WrongArguments a) are h = (names, are, h)
machines_fault files folders last asked names (NotUtf8 a) are h = (names, are, h)
machines_fault files folders last asked names (BadPath a) are h = (names, are, h)
machines_fault files folders last asked names NoSuchPath are h = (names, are, h)
machines_fault files folders last asked names (NoTable a) are h = (names, are, h)
machines_fault files folders last asked names (Read a b) are h = (names, are, h)
machines_fault files folders last asked names (BadHex a) are h = (names, are, h)
machines_fault files folders last asked names (HoldsTables a) are h = (names, are, h.0, h.1, h.2, h.3, h.4, h.5)
machines_fault files folders last asked names (Out a b) are h = (names, are, h)
machines_fault files folders last asked names Output are h = (names, are, h)
machines_fault files folders last asked names Memory are h = tt
