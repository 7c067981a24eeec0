-- Cited by the clause of `definitions_text`: the definitions of the network that is generated. Host 0 has the address 10.0.0.1,
-- and each host the next one; each stands at the port with its number, and may send to the host after it, the last one to host 0.
use Rattle.std.specs.Prelude.{ℕ, suc, zero, ◌+◌, ◌==◌, if◌then◌else◌, List, [], ◌++◌, codes, decimal}
use Rattle.generator.specs.declared.definitions.Table.{Table}
use Rattle.generator.specs.declared.definitions.Table.TheVariants.{Hosts, Access, SwitchOf, PortOf, HostAt}

abbrev pub address : (host : ℕ) → ℕ
address host = 167772161 + host

-- the host that this one may send to
abbrev pub next : (hosts host : ℕ) → ℕ
next hosts host = if host + 1 == hosts then 0 else host + 1

-- ---- tables

abbrev pub default_of : Table → List ℕ
default_of Hosts = codes "default cHost = false;\n"
default_of Access = codes "default acl = false;\n"
default_of SwitchOf = codes "default swOf = 16w0;\n"
default_of PortOf = codes "default portOf = 16w0;\n"
default_of HostAt = codes "default hostAt = 32w0;\n"

-- a number behind some text
abbrev pub numbered : (before : List ℕ) → (number : ℕ) → List ℕ
numbered before number = before ++ decimal number

-- the row of a host
abbrev pub row_of : Table → (hosts host : ℕ) → List ℕ
row_of Hosts hosts host =
    numbered (codes "define cHost(32w") (address host) ++ codes ") = true;\n"
row_of Access hosts host =
    numbered (codes "define acl(32w") (address host)
    ++ (numbered (codes ", 32w") (address (next hosts host)) ++ codes ") = true;\n")
row_of SwitchOf hosts host =
    numbered (codes "define swOf(32w") (address host) ++ codes ") = 16w1;\n"
row_of PortOf hosts host =
    numbered (codes "define portOf(32w") (address host)
    ++ (numbered (codes ") = 16w") host ++ codes ";\n")
row_of HostAt hosts host =
    numbered (codes "define hostAt(16w1, 16w") host
    ++ (numbered (codes ") = 32w") (address host) ++ codes ";\n")

-- those of the first so many hosts, in order
abbrev pub rows_of : Table → (hosts count : ℕ) → List ℕ
rows_of table hosts zero = []
rows_of table hosts (suc host) = rows_of table hosts host ++ row_of table hosts host

abbrev pub table_text : (hosts : ℕ) → Table → List ℕ
table_text hosts table = default_of table ++ rows_of table hosts hosts

-- ---- the whole text

-- the only switch
abbrev pub switch_text : List ℕ
switch_text = codes "default sw = false;\ndefine sw(16w1) = true;\n"

abbrev pub definitions_text : (hosts : ℕ) → List ℕ
definitions_text hosts =
    table_text hosts Hosts ++ (table_text hosts Access ++ (switch_text
    ++ (table_text hosts SwitchOf ++ (table_text hosts PortOf ++ table_text hosts HostAt))))
