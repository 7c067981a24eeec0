-- Cited by the models of the folders in memory, and by no clause: a code of the files of a folder.
use Rattle.std.specs.FinMap.{code}
use Rattle.std.specs.Coded.{Coded, coded_ℕ, coded_list}
use Rattle.cocoon_io.specs.Files.{Files}

abbrev pub coded_files : Coded Files
coded_files = code (coded_list coded_ℕ) (coded_list coded_ℕ)
