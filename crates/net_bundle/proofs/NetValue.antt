-- The value of the file of a network: that it has no fraction, and that it is shallow.
use Rattle.std.proofs.Common.{◌≡◌, ◌≤◌, ℕ, suc, List, [], ◌∷◌, map, Option, Some, None, false, ◌||◌, refl, sym, ap, ap₂, subst, ◌∙◌, codes, max, arith}
use Rattle.serde_json.specs.Data.{Data, object, no_members, member, depth, items_depth}
use Rattle.serde_json.specs.View.{items_of}
use Rattle.serde_json.specs.Read.{read, max_depth}
use Rattle.serde_json.specs.Written.{has_float, items_have_float}
use Rattle.p4_ir.specs.NetTree.{LinkEnd, to_switch, to_host, Link, HostPort}
use Rattle.json_forms.specs.Values.{number_data}
use Rattle.json_forms.proofs.Plain.{no_float, within, number_plain, number_flat}
use Rattle.net_bundle.specs.NetJson.{KeptDigest, NetFile, host_data, link_data, digest_data, net_data}

abbrev wired : (a b c d e f g : Data) → Data
wired a b c d e f g = object (member (codes "cocoon") a (member (codes "design") b (member (codes "files") c (member (codes "hosts") d (member (codes "links") e (member (codes "ports") f (member (codes "switches") g no_members)))))))

-- seven equal members make equal objects
pub seven_same : (a b c d e f g a' b' c' d' e' f' g' : Data) → a ≡ a' → b ≡ b' → c ≡ c' → d ≡ d' → e ≡ e' → f ≡ f' → g ≡ g' → wired a b c d e f g ≡ wired a' b' c' d' e' f' g'
seven_same a b c d e f g a' b' c' d' e' f' g' h1 h2 h3 h4 h5 h6 h7 = cc

digest_plain : (k : KeptDigest) → has_float (digest_data k) ≡ false
digest_plain k = refl

attach_plain : (n : ℕ) (a : Option (ℕ × ℕ)) → has_float (host_data (record { host = n; attach = a })) ≡ false
attach_plain n None = refl
attach_plain n (Some at) = refl

host_plain : (h : HostPort) → has_float (host_data h) ≡ false
host_plain h = attach_plain h.host h.attach

end_plain : (s p : ℕ) (e : LinkEnd) → has_float (link_data (record { switch = s; port = p; to = e })) ≡ false
end_plain s p (to_host h) = refl
end_plain s p (to_switch n q) = refl

link_plain : (l : Link) → has_float (link_data l) ≡ false
link_plain l = end_plain l.switch l.port l.to

pub net_plain : (f : NetFile) → has_float (net_data f) ≡ false
net_plain f = rw (no_float digest_data digest_plain f.files, no_float host_data host_plain f.hosts, no_float link_data link_plain f.links, no_float number_data number_plain f.switches) refl

digest_flat : (k : KeptDigest) → depth (digest_data k) ≤ 1
digest_flat k = omega arith

attach_flat : (n : ℕ) (a : Option (ℕ × ℕ)) → depth (host_data (record { host = n; attach = a })) ≤ 1
attach_flat n None = omega arith
attach_flat n (Some at) = omega arith

host_flat : (h : HostPort) → depth (host_data h) ≤ 1
host_flat h = attach_flat h.host h.attach

end_flat : (s p : ℕ) (e : LinkEnd) → depth (link_data (record { switch = s; port = p; to = e })) ≤ 1
end_flat s p (to_host h) = omega arith
end_flat s p (to_switch n q) = omega arith

link_flat : (l : Link) → depth (link_data l) ≤ 1
link_flat l = end_flat l.switch l.port l.to

-- seven members, of which four are lists
seven_deep : (a b c d : ℕ) → a ≤ 1 → b ≤ 1 → c ≤ 1 → d ≤ 1 → suc (max 0 (max 0 (max (suc a) (max (suc b) (max (suc c) (max 0 (max (suc d) 0))))))) ≤ max_depth
seven_deep a b c d h i j k = grind (arith)

pub net_shallow : (f : NetFile) → depth (net_data f) ≤ max_depth
net_shallow f = seven_deep _ _ _ _ (within digest_data 1 digest_flat f.files) (within host_data 1 host_flat f.hosts) (within link_data 1 link_flat f.links) (within number_data 1 number_flat f.switches)

-- what was written of a value is read back as it
pub net_reads : (d : Data) (bytes : List ℕ) (f : NetFile) → d ≡ net_data f → (depth d ≤ max_depth → read bytes ≡ Some d) → read bytes ≡ Some (net_data f)
net_reads d bytes f e h = h (subst (λ (x : Data). depth x ≤ max_depth) (sym e) (net_shallow f)) ∙ ap Some e
