-- Which fault a command line gets.
use Rattle.std.specs.Prelude.{◌∷◌, ◌≡◌, ◌≢◌, ◌⊎◌}
use Rattle.command_line.specs.Words.{[], ℕ, ⊤, ErrorKind, Help, IsAmong, LineFault, List, Memory, None, Option, Row, Some, Text, Usage, Version, codes, fault_of, option_map}
use Rattle.command_line.specs.Words.{string_bytes, subcommand_of}
use Rattle.command_line.specs.Application.{scopectl}

-- the words are not understood, or memory was refused
abbrev pub IsUsageOrMemory : LineFault → Type 0
IsUsageOrMemory (Usage text) = ⊤
IsUsageOrMemory Memory = ⊤
IsUsageOrMemory _ = ⊥

-- the fault by which an error of a kind is told
abbrev pub TellsKind : ErrorKind → LineFault → Type 0
TellsKind k Help = k ≡ ErrorKind.DisplayHelp
TellsKind k Version = k ≡ ErrorKind.DisplayVersion
TellsKind k (Usage text) =
    (k ≢ ErrorKind.DisplayHelp) × (k ≢ ErrorKind.DisplayVersion) × (k ≢ ErrorKind.OutOfMemory)
TellsKind k Memory = ⊤

-- the fault by which a command is told that is no job
abbrev pub TellsWord : (word : List ℕ) → LineFault → Type 0
TellsWord word Help = word ≡ codes "help"
TellsWord word Version = word ≡ codes "version"
TellsWord word _ = ⊤

-- the fault by which the command is told that a parse entered
abbrev pub TellsEntered : Option (Text × List Row) → LineFault → Type 0
TellsEntered None fault = IsUsageOrMemory fault
TellsEntered (Some entered) fault = TellsWord entered.0 fault

-- the parse of the words may answer this
abbrev pub MayAnswer : ErrorKind → List (List ℕ) → Type 0
MayAnswer asked words = IsAmong asked (fault_of scopectl words)

-- the parse can answer nothing but this
abbrev pub AnswersAlone : ErrorKind → List (List ℕ) → Type 0
AnswersAlone asked words = fault_of scopectl words ≡ asked ∷ []

-- the parse of the words meets no fault, and their command is this
abbrev pub Enters : (command : List ℕ) → List (List ℕ) → Type 0
Enters command words = (fault_of scopectl words ≡ []) × (option_map (λ entered. entered.0) (subcommand_of scopectl words) ≡ Some command)

-- the words ask for help, by `--help` or by the command `help`
abbrev pub AsksHelp : List (List ℕ) → Type 0
AsksHelp words = MayAnswer ErrorKind.DisplayHelp words ⊎ Enters (codes "help") words

-- the words ask for the version, by `--version` or by the command `version`
abbrev pub AsksVersion : List (List ℕ) → Type 0
AsksVersion words = MayAnswer ErrorKind.DisplayVersion words ⊎ Enters (codes "version") words

-- the words ask for neither by an option
abbrev pub IsNoRequest : List (List ℕ) → Type 0
IsNoRequest words = (AnswersAlone ErrorKind.DisplayHelp words → ⊥) × (AnswersAlone ErrorKind.DisplayVersion words → ⊥)

-- help comes if the words ask for it, and so does the version
abbrev pub Answers : List (List ℕ) → LineFault → Type 0
Answers words Help = AsksHelp words
Answers words Version = AsksVersion words
Answers words (Usage text) = IsNoRequest words
Answers words Memory = ⊤

-- what a fault is shown as
abbrev pub fault_text : LineFault → List ℕ
fault_text Help = codes "help is asked for"
fault_text Version = codes "the version is asked for"
fault_text (Usage text) = string_bytes text
fault_text Memory = codes "memory was refused"
