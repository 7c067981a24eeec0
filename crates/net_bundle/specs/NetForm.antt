-- The form of the file of a network, member by member in ascending order of keys. A rule that joins two members is tested
-- only where the other member is of its form. The clauses of `read_net` cite it. It follows "How a bundle is read back" in
-- docs/FORMATS.md. The tagged form is absent.
use Rattle.std.specs.Prelude.{ℕ, ◌+◌, ◌^◌, ◌==◌, ◌&&◌, Bool, true, false, nat_lt, List, [], ◌∷◌, map, flat_map, Option, Some, None, option_map, option_and_then, if◌then◌else◌, Result, Ok, Err, codes}
use Rattle.std.specs.Str.{bytes_eq}
use Rattle.serde_json.specs.Data.{Data}
use Rattle.serde_json.specs.Find.{as_str}
use Rattle.cocoon_num.specs.Lists.{each, ascend, has_number}
use Rattle.p4_ir.specs.NetTree.{LinkEnd, to_switch, to_host, Link, HostPort}
use Rattle.p4_ir.specs.Wiring.{pairs_ascend, host_numbers}
use Rattle.net_bundle.specs.BundleNames.{program_name, rows_name}
use Rattle.net_bundle.specs.NetJson.{KeptDigest, NetFile}
use Rattle.net_bundle.specs.Network.{is_digest, net_file_fits}
use Rattle.json_forms.specs.Forms.{fitting, number_form, list_form, has_items, item_form, has_keys, member_form, both_of}

-- no rule where nothing is there
abbrev pub where_known : {A : Type 0} → (A → Bool) → Option A → Bool
where_known test None = true
where_known test (Some a) = test a

-- ---- the forms of items

abbrev pub digest_form : Data → Option (List ℕ)
digest_form d = fitting is_digest (as_str d)

-- [NAME,DIGEST]
abbrev pub kept_form : Data → Option KeptDigest
kept_form d =
    if has_items 2 d
    then both_of (λ name digest. record { name = name; digest = digest }) (item_form as_str 0 d) (item_form digest_form 1 d)
    else None

-- a switch, and a port after it
abbrev pub location_form : ℕ → Data → Option (ℕ × ℕ)
location_form i d = both_of (λ s p. (s, p)) (item_form (number_form (2 ^ 16)) i d) (item_form (number_form (2 ^ 16)) (i + 1) d)

-- [HOST,SWITCH,PORT], or [HOST] without an attachment
abbrev pub host_form : Data → Option HostPort
host_form d =
    if has_items 1 d
    then option_map (λ h. record { host = h; attach = None }) (item_form (number_form (2 ^ 64)) 0 d)
    else (if has_items 3 d
    then both_of (λ h location. record { host = h; attach = Some location }) (item_form (number_form (2 ^ 64)) 0 d) (location_form 1 d)
    else None)

-- the item at this index is this text
abbrev pub has_text : List ℕ → ℕ → Data → Bool
has_text text index d = elim (item_form as_str index d) [ Some found ↦ bytes_eq found text | None ↦ false ]

abbrev pub end_form : Data → Option LinkEnd
end_form d =
    if has_items 4 d && has_text (codes "host") 2 d
    then option_map (λ h. to_host h) (item_form (number_form (2 ^ 64)) 3 d)
    else (if has_items 5 d && has_text (codes "switch") 2 d
    then option_map (λ location. to_switch location.0 location.1) (location_form 3 d)
    else None)

-- [SWITCH,PORT,"host",HOST] or [SWITCH,PORT,"switch",SWITCH,PORT]
abbrev pub link_form : Data → Option Link
link_form d = both_of (λ location to. record { switch = location.0; port = location.1; to = to }) (location_form 0 d) (end_form d)

-- ---- the rules of lists

-- the files of each switch, in order
abbrev pub file_names : List ℕ → List (List ℕ)
file_names switches = flat_map (λ s. program_name s ∷ rows_name s ∷ []) switches

abbrev pub are_names : List (List ℕ) → List KeptDigest → Bool
are_names [] [] = true
are_names [] (k ∷ ks) = false
are_names (n ∷ ns) [] = false
are_names (n ∷ ns) (k ∷ ks) = bytes_eq k.name n && are_names ns ks

abbrev pub files_fit : Option (List ℕ) → List KeptDigest → Bool
files_fit switches files = where_known (λ ss. are_names (file_names ss) files) switches

-- a port of a switch of the network, as far as both are known
abbrev pub location_fits : Option ℕ → Option (List ℕ) → ℕ × ℕ → Bool
location_fits ports switches location = where_known (has_number location.0) switches && where_known (nat_lt location.1) ports

abbrev pub host_fits : Option ℕ → Option (List ℕ) → HostPort → Bool
host_fits ports switches h = where_known (location_fits ports switches) h.attach

abbrev pub hosts_fit : Option ℕ → Option (List ℕ) → List HostPort → Bool
hosts_fit ports switches hosts = each (host_fits ports switches) hosts && ascend (host_numbers hosts)

-- `hosts` are the numbers of the hosts
abbrev pub end_fits : Option ℕ → Option (List ℕ) → (hosts : Option (List ℕ)) → LinkEnd → Bool
end_fits ports switches hosts (to_switch s p) = location_fits ports switches (s, p)
end_fits ports switches hosts (to_host h) = where_known (has_number h) hosts

abbrev pub link_fits : Option ℕ → Option (List ℕ) → (hosts : Option (List ℕ)) → Link → Bool
link_fits ports switches hosts l = location_fits ports switches (l.switch, l.port) && end_fits ports switches hosts l.to

abbrev pub links_fit : Option ℕ → Option (List ℕ) → (hosts : Option (List ℕ)) → List Link → Bool
links_fit ports switches hosts links =
    each (link_fits ports switches hosts) links && pairs_ascend (map (λ (l : Link). (l.switch, l.port)) links)

-- ---- members, each where it is of its form

abbrev pub cocoon_of : Data → Option ℕ
cocoon_of d = fitting (λ n. n == 1) (member_form (number_form (2 ^ 64)) (codes "cocoon") d)

abbrev pub design_of : Data → Option (List ℕ)
design_of d = member_form digest_form (codes "design") d

abbrev pub switches_of : Data → Option (List ℕ)
switches_of d = fitting ascend (member_form (list_form (number_form (2 ^ 16))) (codes "switches") d)

abbrev pub ports_of : Data → Option ℕ
ports_of d = member_form (number_form (2 ^ 16)) (codes "ports") d

abbrev pub files_of : Data → Option (List KeptDigest)
files_of d = fitting (files_fit (switches_of d)) (member_form (list_form kept_form) (codes "files") d)

abbrev pub hosts_of : Data → Option (List HostPort)
hosts_of d = fitting (hosts_fit (ports_of d) (switches_of d)) (member_form (list_form host_form) (codes "hosts") d)

abbrev pub links_of : Data → Option (List Link)
links_of d = fitting (links_fit (ports_of d) (switches_of d) (option_map host_numbers (hosts_of d))) (member_form (list_form link_form) (codes "links") d)

-- ---- the file

abbrev pub net_keys : List (List ℕ)
net_keys = codes "cocoon" ∷ codes "design" ∷ codes "files" ∷ codes "hosts" ∷ codes "links" ∷ codes "ports" ∷ codes "switches" ∷ []

-- all members, or the pointer of the first that is not of its form
abbrev pub all_members : Option ℕ → Option (List ℕ) → Option (List KeptDigest) → Option (List HostPort) → Option (List Link) → Option ℕ → Option (List ℕ) → Result NetFile (List ℕ)
all_members None design files hosts links ports switches = Err (codes "/cocoon")
all_members (Some one) None files hosts links ports switches = Err (codes "/design")
all_members (Some one) (Some design) None hosts links ports switches = Err (codes "/files")
all_members (Some one) (Some design) (Some files) None links ports switches = Err (codes "/hosts")
all_members (Some one) (Some design) (Some files) (Some hosts) None ports switches = Err (codes "/links")
all_members (Some one) (Some design) (Some files) (Some hosts) (Some links) None switches = Err (codes "/ports")
all_members (Some one) (Some design) (Some files) (Some hosts) (Some links) (Some ports) None = Err (codes "/switches")
all_members (Some one) (Some design) (Some files) (Some hosts) (Some links) (Some ports) (Some switches) =
    Ok (record { design = design; files = files; hosts = hosts; links = links; ports = ports; switches = switches })

-- The file, or the pointer of the first member that is not of its form; no text for a value that is no object, lacks a key
-- or has an unknown one.
abbrev pub net_form : Data → Result NetFile (List ℕ)
net_form d =
    if has_keys net_keys d
    then all_members (cocoon_of d) (design_of d) (files_of d) (hosts_of d) (links_of d) (ports_of d) (switches_of d)
    else Err []

-- ---- which files are of the form

abbrev pub kept_fits : KeptDigest → Bool
kept_fits k = is_digest k.digest

-- its design is a digest, its wires fit, and it names the files of each switch, in order, with digests
abbrev pub file_fits : NetFile → Bool
file_fits f = net_file_fits f && each kept_fits f.files && are_names (file_names f.switches) f.files
