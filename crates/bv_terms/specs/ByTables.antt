-- Cited by the law that rows keep values: functions of which some are given by tables.
use Rattle.std.specs.Prelude.{option_map, unwrap_or}
use Rattle.cocoon_num.specs.FunTables.{looked}
use Rattle.bv_terms.specs.TermValues.{Functions}
use Rattle.bv_terms.specs.WithRows.{Tables, table_of}

-- what the table of a function gives; of a function without a table, what the others give
abbrev pub by_tables : Tables → (others : Functions) → Functions
by_tables tables others f xs = unwrap_or (option_map (λ t. (looked t xs).value) (table_of tables f)) (others f xs)
