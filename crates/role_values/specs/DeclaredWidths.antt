-- Cited by the conditions of all that makes numbers of declared widths.
pub use Rattle.runtime_defs.specs.Places.{AllDeclared}
