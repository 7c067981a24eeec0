-- The value of the network's file gives back what the file holds.
use Rattle.std.specs.Prelude.{◌≡◌, ℕ, List, [], ◌∷◌, map, Option, Some, None, refl}
use Rattle.std.proofs.Common.{sym, ◌∙◌, ap, ap₂}
use Rattle.serde_json.specs.Data.{Data, object, Items, item, Members, member}
use Rattle.serde_json.specs.View.{items_of}
use Rattle.p4_ir.specs.NetTree.{LinkEnd, to_switch, to_host, Link, HostPort}
use Rattle.json_forms.specs.Values.{number_data, array_data}
use Rattle.net_bundle.specs.NetJson.{KeptDigest, NetFile, host_data, link_data, digest_data, net_data}

-- ---- values

pub number_same : (m n : ℕ) → number_data m ≡ number_data n → m ≡ n
number_same m n e = cc

pub object_same : (ms ns : Members) → object ms ≡ object ns → ms ≡ ns
object_same ms ns e = cc

pub member_same : (k l : List ℕ) (d e : Data) (ms ns : Members) → member k d ms ≡ member l e ns → (d ≡ e) × (ms ≡ ns)
member_same k l d e ms ns h = (cc, cc)

item_same : (d e : Data) (ds es : Items) → item d ds ≡ item e es → (d ≡ e) × (ds ≡ es)
item_same d e ds es h = (cc, cc)

list_same : {A : Type 0} (f : A → Data) → ((x y : A) → f x ≡ f y → x ≡ y) → (xs ys : List A) → items_of (map f xs) ≡ items_of (map f ys) → xs ≡ ys
list_same f one [] [] e = refl
list_same f one [] (y ∷ ys) e = absurd cc
list_same f one (x ∷ xs) [] e = absurd cc
list_same f one (x ∷ xs) (y ∷ ys) e =
    let h = item_same (f x) (f y) (items_of (map f xs)) (items_of (map f ys)) e in
    ap₂ (λ a b. a ∷ b) (one x y h.0) (list_same f one xs ys h.1)

pub array_same : {A : Type 0} (f : A → Data) → ((x y : A) → f x ≡ f y → x ≡ y) → (xs ys : List A) → array_data f xs ≡ array_data f ys → xs ≡ ys
array_same f one xs ys e =
    let h : items_of (map f xs) ≡ items_of (map f ys) = cc in
    list_same f one xs ys h

pub numbers_same : (ms ns : List ℕ) → array_data number_data ms ≡ array_data number_data ns → ms ≡ ns
numbers_same = array_same number_data number_same

-- ---- hosts, links and digests

abbrev host_at : ℕ → Option (ℕ × ℕ) → HostPort
host_at h at = record { host = h; attach = at }

pair_same : (p q : ℕ × ℕ) → p.0 ≡ q.0 → p.1 ≡ q.1 → p ≡ q
pair_same p q a b = ap₂ (λ (x y : ℕ). (x, y)) a b

host_at_same : (g h : ℕ) (at to : Option (ℕ × ℕ)) → host_data (host_at g at) ≡ host_data (host_at h to) → (g ≡ h) × (at ≡ to)
host_at_same g h None None e = (cc, refl)
host_at_same g h None (Some to) e = absurd cc
host_at_same g h (Some at) None e = absurd cc
host_at_same g h (Some at) (Some to) e =
    let s : at.0 ≡ to.0 = cc in
    let p : at.1 ≡ to.1 = cc in
    (cc, ap Some (pair_same at to s p))

host_same : (g h : HostPort) → host_data g ≡ host_data h → g ≡ h
host_same g h e = let s = host_at_same g.host h.host g.attach h.attach e in ap₂ host_at s.0 s.1

abbrev link_from : ℕ → ℕ → LinkEnd → Link
link_from s p to = record { switch = s; port = p; to = to }

host_links_same : (s t p q g h : ℕ) → link_data (link_from s p (to_host g)) ≡ link_data (link_from t q (to_host h)) → (s ≡ t) × (p ≡ q) × (g ≡ h)
host_links_same s t p q g h e = (cc, cc, cc)

switch_links_same : (s t p q u v m n : ℕ) → link_data (link_from s p (to_switch u m)) ≡ link_data (link_from t q (to_switch v n)) → (s ≡ t) × (p ≡ q) × (u ≡ v) × (m ≡ n)
switch_links_same s t p q u v m n e = (cc, cc, cc, cc)

ends_apart : {P : Type 0} (s t p q u m h : ℕ) → link_data (link_from s p (to_switch u m)) ≡ link_data (link_from t q (to_host h)) → P
ends_apart s t p q u m h e = absurd cc

link_from_same : (s t p q : ℕ) (to at : LinkEnd) → link_data (link_from s p to) ≡ link_data (link_from t q at) → (s ≡ t) × (p ≡ q) × (to ≡ at)
link_from_same s t p q (to_host g) (to_host h) e = let f = host_links_same s t p q g h e in (f.0, f.1, ap to_host f.2)
link_from_same s t p q (to_host h) (to_switch u m) e = ends_apart t s q p u m h (sym e)
link_from_same s t p q (to_switch u m) (to_host h) e = ends_apart s t p q u m h e
link_from_same s t p q (to_switch u m) (to_switch v n) e = let f = switch_links_same s t p q u v m n e in (f.0, f.1, ap₂ to_switch f.2 f.3)

link_same : (k l : Link) → link_data k ≡ link_data l → k ≡ l
link_same k l e =
    let s = link_from_same k.switch l.switch k.port l.port k.to l.to e in
    ap₂ (λ a b. link_from a b k.to) s.0 s.1 ∙ ap (link_from l.switch l.port) s.2

abbrev digest_with : List ℕ → List ℕ → KeptDigest
digest_with name digest = record { name = name; digest = digest }

digest_same : (k l : KeptDigest) → digest_data k ≡ digest_data l → k ≡ l
digest_same k l e =
    let name : k.name ≡ l.name = cc in
    let digest : k.digest ≡ l.digest = cc in
    ap₂ digest_with name digest

-- ---- the file

-- two files that hold the same
pub record SameFile (f g : NetFile) : Type 0 where
  pub files : f.files ≡ g.files
  pub hosts : f.hosts ≡ g.hosts
  pub links : f.links ≡ g.links
  pub ports : f.ports ≡ g.ports
  pub switches : f.switches ≡ g.switches

pub file_same : (f g : NetFile) → net_data f ≡ net_data g → SameFile f g
file_same f g e =
    let version = member_same _ _ _ _ _ _ (object_same _ _ e) in
    let design = member_same _ _ _ _ _ _ version.1 in
    let files = member_same _ _ _ _ _ _ design.1 in
    let hosts = member_same _ _ _ _ _ _ files.1 in
    let links = member_same _ _ _ _ _ _ hosts.1 in
    let ports = member_same _ _ _ _ _ _ links.1 in
    let switches = member_same _ _ _ _ _ _ ports.1 in
    record {
      files = array_same digest_data digest_same f.files g.files files.0;
      hosts = array_same host_data host_same f.hosts g.hosts hosts.0;
      links = array_same link_data link_same f.links g.links links.0;
      ports = number_same f.ports g.ports ports.0;
      switches = numbers_same f.switches g.switches switches.0;
    }
