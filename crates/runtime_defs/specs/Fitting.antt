-- Cited by the clauses of `bind` and `Defs::from_tables`, and by the conditions of all that takes a design with its
-- definitions: which tables are definitions of a design. What prints them has it, too.
pub use Rattle.runtime_defs.specs.Printable.{all_ones, FitsDesign, FitsFunction, FitsPlace, FitsRow, IsLiteral, IsMasked, literal_functions, result_width}
