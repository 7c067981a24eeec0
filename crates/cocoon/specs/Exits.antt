-- Cited by the clause of `exit_code`: how the process ends, by what its words are and by the status of
-- the call.
use Rattle.std.specs.Prelude.{◌≡◌, ◌≢◌, ℕ, List, [], Result, Ok, Err, Vec, String, map, string_bytes}
use Rattle.std.specs.declared.alloc.Global.{Global}
use Rattle.std.specs.declared.process.ExitCode.{ExitCode}
use Rattle.std.specs.Process.{exit_status}
use Rattle.std.specs.declared.io.Error.{Error}
use Rattle.std.specs.declared.io.ErrorKind.TheVariants.{OutOfMemory}
use Rattle.std.specs.IoError.{error_kind}
use Rattle.command_reports.specs.declared.status.Status.{Status}
use Rattle.command_reports.specs.declared.status.Status.TheVariants.{Done}
use Rattle.command_answers.specs.FolderCalls.{Counted}
use Rattle.command_reports.specs.Report.{Puts, no_memory, status_number}
use Rattle.cocoon_cli.specs.Headline.{Headline}
use Rattle.cocoon_cli.specs.Run.{Call, Keeps}

-- The number is that of a status for which all clauses of `run` on these words hold. What a call on
-- some words is that ends with some status is a parameter.
pub record ExitsByRun
    (last_failure : List ℕ → Type 0) (words : List (List ℕ))
    (call : List (List ℕ) → Status → Call) (code : ExitCode) : Type 0 where
  pub status : Status
  pub number : exit_status code ≡ status_number status
  pub keeps : Keeps last_failure (call words status)
  pub headline : status ≡ Done
      → Headline words (call words status).content_before (call words status).content_after

-- There was no memory for the words: the folder is as it was, and the line that says so is printed.
pub record ExitsByNoMemory (call : List (List ℕ) → Status → Call) (code : ExitCode) : Type 0 where
  pub status : Status
  pub number : exit_status code ≡ status_number status
  pub unchanged : (call [] status).content_after ≡ (call [] status).content_before
  pub puts : Puts (Counted (call [] status).puts) no_memory
      (call [] status).output_before (call [] status).output_after status

-- how the process ends; words that cannot be read, as one that is not UTF-8, are none
abbrev pub Exits : (List ℕ → Type 0) → Result (Vec (String Global) Global) Error
    → (List (List ℕ) → Status → Call) → ExitCode → Type 0
Exits last_failure (Ok words) call code =
    ExitsByRun last_failure (map string_bytes words.items) call code
Exits last_failure (Err error) call code =
    (error_kind error ≡ OutOfMemory → ExitsByNoMemory call code)
    × (error_kind error ≢ OutOfMemory → ExitsByRun last_failure [] call code)
