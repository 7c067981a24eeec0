-- The values of the JSON files of a bundle, as the crate serde_json has them. It follows "Bundle files" in
-- docs/FORMATS.md. The tagged form, versions of rows and certificates are absent.
use Rattle.std.specs.Prelude.{ℕ, List, [], ◌∷◌, Some, None, codes}
use Rattle.serde_json.specs.Data.{Data, Items, no_items, item, string, array, object, member, no_members}
use Rattle.json_forms.specs.Values.{number_data, array_data, these}
use Rattle.p4_ir.specs.NetTree.{to_switch, to_host, Link, HostPort}
use Rattle.p4_ir.specs.P4Tree.{KeyRow, TableRows, Group, RowsFile}

-- ---- the file of the network

-- a file of the bundle, by what follows the bundle's name, and the digest of its bytes
pub record KeptDigest : Type 0 where
  pub name : List ℕ
  pub digest : List ℕ

-- what the file of the network holds
pub record NetFile : Type 0 where
  pub design : List ℕ
  pub files : List KeptDigest
  pub hosts : List HostPort
  pub links : List Link
  pub ports : ℕ
  pub switches : List ℕ

-- [HOST,SWITCH,PORT], or [HOST] without an attachment
abbrev pub host_data : HostPort → Data
host_data h = elim h.attach [
  | None ↦ these (number_data h.host ∷ [])
  | Some at ↦ these (number_data h.host ∷ number_data at.0 ∷ number_data at.1 ∷ [])
]

-- [SWITCH,PORT,"host",HOST] or [SWITCH,PORT,"switch",SWITCH,PORT]
abbrev pub link_data : Link → Data
link_data l = elim l.to [
  | to_host h ↦ these (number_data l.switch ∷ number_data l.port ∷ string (codes "host") ∷ number_data h ∷ [])
  | to_switch s p ↦ these (number_data l.switch ∷ number_data l.port ∷ string (codes "switch") ∷ number_data s ∷ number_data p ∷ [])
]

-- [NAME,DIGEST]
abbrev pub digest_data : KeptDigest → Data
digest_data k = these (string k.name ∷ string k.digest ∷ [])

abbrev pub net_data : NetFile → Data
net_data f =
    object (member (codes "cocoon") (number_data 1) (member (codes "design") (string f.design)
    (member (codes "files") (array_data digest_data f.files) (member (codes "hosts") (array_data host_data f.hosts)
    (member (codes "links") (array_data link_data f.links) (member (codes "ports") (number_data f.ports)
    (member (codes "switches") (array_data number_data f.switches) no_members)))))))

-- ---- a file of rows

-- [[VALUE,MASK], ..]
abbrev pub key_data : List ℕ → List ℕ → Items
key_data [] ms = no_items
key_data (v ∷ vs) [] = no_items
key_data (v ∷ vs) (m ∷ ms) = item (these (number_data v ∷ number_data m ∷ [])) (key_data vs ms)

-- {"key":[[VALUE,MASK]],"value":V}
abbrev pub row_data : KeyRow → Data
row_data r = object (member (codes "key") (array (key_data r.values r.masks)) (member (codes "value") (number_data r.result) no_members))

-- {"default":V,"rows":[ROW],"table":NUMBER}
abbrev pub table_data : TableRows → Data
table_data t =
    object (member (codes "default") (number_data t.otherwise) (member (codes "rows") (array_data row_data t.rows)
    (member (codes "table") (number_data t.number) no_members)))

-- [NUMBER,[MEMBER]]
abbrev pub group_data : Group → Data
group_data g = these (number_data g.number ∷ array_data number_data g.members ∷ [])

-- {"groups":[GROUP],"tables":[TABLE]}
abbrev pub rows_data : RowsFile → Data
rows_data r = object (member (codes "groups") (array_data group_data r.groups) (member (codes "tables") (array_data table_data r.tables) no_members))
