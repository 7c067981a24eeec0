-- The names of a bundle's files, and the digest that is kept of some of them. It follows "Bundle files" in docs/FORMATS.md;
-- digests are SHA-256 (FIPS 180-4), as the crate sha2 states it.
use Rattle.std.specs.Prelude.{ℕ, List, ◌++◌, codes, decimal}
use Rattle.sha2.specs.Sha256.{sha256}
use Rattle.hex.specs.Hex.{encode_lower}

-- sS.p4
abbrev pub program_name : ℕ → List ℕ
program_name s = codes "s" ++ (decimal s ++ codes ".p4")

-- sS.rows.json
abbrev pub rows_name : ℕ → List ℕ
rows_name s = codes "s" ++ (decimal s ++ codes ".rows.json")

abbrev pub net_name : List ℕ
net_name = codes "net.json"

-- OUT.NAME
abbrev pub file_name : List ℕ → List ℕ → List ℕ
file_name out name = out ++ (codes "." ++ name)

-- SHA-256 in lower-case hexadecimal digits
abbrev pub digest_of : List ℕ → List ℕ
digest_of bytes = encode_lower (sha256 bytes)
