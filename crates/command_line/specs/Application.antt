-- The application, as a parse reads it.
use Rattle.command_line.specs.Words.{ℕ, After, Answers, App, Append, File, Flag, Job, List, Notes, Rule, SetTrue, Setting, Some, codes, fold, map, new_app, new_rule, on_top, true, with_rule}
use Rattle.command_line.specs.Words.{with_subcommand}
use Rattle.command_line.specs.{Jobs.all_jobs, Jobs.command_word, Jobs.flags_of, Jobs.settings_of, Settings.flag_name, Settings.name_of}

-- a text that stands alone
abbrev pub file_rule : List ℕ → Rule
file_rule name = record (new_rule name) { value_names = 1 }

-- the option `--NAME VALUE`, which stands once at most
abbrev pub option_rule : List ℕ → Rule
option_rule name = record (new_rule name) { long = Some name; value_names = 1 }

-- `--after` may stand more than once, a file stands alone, and a check wants its journal
abbrev pub setting_rule : Setting → Rule
setting_rule After = record (option_rule (name_of After)) { action = Some Append }
setting_rule File = file_rule (name_of File)
setting_rule Notes = record (file_rule (name_of Notes)) { required = true }
setting_rule Answers = file_rule (name_of Answers)
setting_rule setting = option_rule (name_of setting)

-- the option `--NAME`, which has no text
abbrev pub flag_rule : Flag → Rule
flag_rule flag = record (new_rule (flag_name flag)) { long = Some (flag_name flag); action = Some SetTrue }

-- the command with these arguments
unfoldable pub with_rules : App → List Rule → App
with_rules bare rules = fold with_rule bare rules

-- the command of a job, with its options
abbrev pub command_of : Job → App
command_of job =
    with_rules (with_rules (new_app (command_word job)) (map setting_rule (settings_of job))) (map flag_rule (flags_of job))

-- the application with the commands of these jobs
unfoldable pub with_jobs : App → List Job → App
with_jobs bare jobs = fold (λ (app : App) (job : Job). with_subcommand app (command_of job).top) bare jobs

-- the word `help`, with the word of a command behind it
abbrev pub help_command : App
help_command = with_rule (new_app (codes "help")) (file_rule (codes "COMMAND"))

-- the program without its jobs: the words `help` and `version` are commands of its own
abbrev pub program : App
program = with_subcommand (with_subcommand (on_top (λ top. record top {
  has_version = true;
  subcommand_required = true;
  disable_help_subcommand = true;
}) (new_app (codes "scopectl"))) help_command.top) (new_app (codes "version")).top

unfoldable pub scopectl : App
scopectl = with_jobs program all_jobs
