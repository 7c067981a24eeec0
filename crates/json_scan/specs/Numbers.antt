-- The number that a number of the code stands for. The clauses of what reads numbers cite it.
use Rattle.serde_json.specs.Data.{Num, unsigned, negative, float}
use Rattle.json_scan.specs.declared.number.JsonNumber.{JsonNumber}
use Rattle.json_scan.specs.declared.number.JsonNumber.TheVariants.{Unsigned, Negative, Fraction}

abbrev pub num_of : JsonNumber → Num
num_of (Unsigned n) = unsigned n
num_of (Negative z) = negative z
num_of (Fraction x) = float x
