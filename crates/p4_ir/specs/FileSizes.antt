-- How many bytes a file of a network may have. Cited by the limits of lowering and by those of a bundle. It follows "Sizes of
-- files" in docs/FORMATS.md.
use Rattle.std.specs.Prelude.{ℕ}

-- the most bytes of the file of a program, of that of rows, and of that of the whole network
abbrev pub most_file_bytes : ℕ
most_file_bytes = 4194304
