-- The form of the file of a network is exact.
use Rattle.std.proofs.Common.{◌≡◌, ◌⊎◌, ℕ, ◌^◌, ◌<◌, ◌&&◌, ◌||◌, ◌↔◌, Bool, true, false, List, [], ◌∷◌, map, Option, Some, None, option_map, Result, Ok, Err, if◌then◌else◌, nat_lt, IsTrue, refl, sym, ap, ap₂, subst, ◌∙◌, codes, inl, inr, arith}
use Rattle.std.specs.Prelude.{◌==◌}
use Rattle.std.specs.Str.{bytes_eq}
use Rattle.std.proofs.lemmas.Bool.{and_from, and_parts, eqb-true, ltb-true, lt-ltb}
use Rattle.std.proofs.lemmas.Bool.Decides.{eqb_tells}
use Rattle.std.proofs.lemmas.Slice.Eq.{bytes_eq-Decides}
use Rattle.serde_json.specs.Data.{Data, null, boolean, number, string, array, object, no_items, item, no_members, member}
use Rattle.serde_json.specs.Find.{as_str}
use Rattle.cocoon_num.specs.Lists.{each, ascend, has_number}
use Rattle.p4_ir.specs.NetTree.{LinkEnd, to_switch, to_host, Link, HostPort}
use Rattle.p4_ir.specs.Wiring as wire
use Rattle.json_forms.specs.Values.{number_data, array_data, these}
use Rattle.net_bundle.specs.NetJson.{KeptDigest, NetFile, host_data, link_data, digest_data, net_data}
use Rattle.net_bundle.specs.Network.{is_digest, file_wiring}
use Rattle.json_forms.specs.Forms.{fitting, number_form, list_form, has_items, item_form, has_keys, both_of}
use Rattle.net_bundle.specs.NetForm as form
use Rattle.json_forms.proofs.Exact.{Exact, none_some, some_same, map_parts, if_parts, fitting_parts, fitting_from, both_parts, text_sound, text_exact, number_exact, list_exact, array_has, no_more, one_more, two_items, object_has, last_key, next_key, err_ok, ok_same, ok_parts}

-- ---- lists

each_more : {A : Type 0} (f h : A → Bool) → ((x : A) → f x ≡ true → h x ≡ true) → (xs : List A) → each f xs ≡ true → each h xs ≡ true
each_more f h k [] e = refl
each_more f h k (x ∷ xs) e = let parts = and_parts (f x) (each f xs) e in and_from (h x) (each h xs) (k x parts.0) (each_more f h k xs parts.1)

each_both : {A : Type 0} (f g h : A → Bool) → ((x : A) → f x ≡ true → g x ≡ true → h x ≡ true) → (xs : List A) → each f xs ≡ true → each g xs ≡ true → each h xs ≡ true
each_both f g h k [] d e = refl
each_both f g h k (x ∷ xs) d e =
    let a = and_parts (f x) (each f xs) d in
    let b = and_parts (g x) (each g xs) e in
    and_from (h x) (each h xs) (k x a.0 b.0) (each_both f g h k xs a.1 b.1)

-- what holds of all numbers of a list holds of one of them
among : (f : ℕ → Bool) (n : ℕ) (xs : List ℕ) → has_number n xs ≡ true → each f xs ≡ true → f n ≡ true
among f n [] h e = absurd cc
among f n (x ∷ xs) h e =
    let parts = and_parts (f x) (each f xs) e in
    elim (eqb_tells n x) [
      | inl p ↦ subst (λ y. f y ≡ true) (sym p.1) parts.0
      | inr p ↦ among f n xs (sym (ap (λ b. b || has_number n xs) p.0) ∙ h) parts.1
    ]

-- ---- digests

digest_sound : (d : Data) (t : List ℕ) → form.digest_form d ≡ Some t → (d ≡ string t) × (is_digest t ≡ true)
digest_sound d t h = let parts = fitting_parts is_digest (as_str d) t h in ((text_sound d t parts.0).0, parts.1)

digest_exact : Exact form.digest_form string is_digest
digest_exact = record { sound = digest_sound; complete = λ t h. fitting_from is_digest (Some t) t refl h }

-- ---- files

abbrev kept_made : List ℕ → List ℕ → KeptDigest
kept_made name digest = record { name = name; digest = digest }

kept_here : (a b : Data) (k : KeptDigest) → both_of kept_made (as_str a) (form.digest_form b) ≡ Some k → (these (a ∷ b ∷ []) ≡ digest_data k) × (form.kept_fits k ≡ true)
kept_here a b k h =
    let parts = both_parts kept_made _ _ k h in
    let name = text_sound a parts.0 parts.2 in
    let digest = digest_sound b parts.1 parts.3 in
    (ap₂ (λ x y. these (x ∷ y ∷ [])) name.0 digest.0 ∙ ap digest_data parts.4, subst (λ x. form.kept_fits x ≡ true) parts.4 digest.1)

kept_sound : (d : Data) (k : KeptDigest) → form.kept_form d ≡ Some k → (d ≡ digest_data k) × (form.kept_fits k ≡ true)
kept_sound d k h =
    let has = if_parts (has_items 2 d) _ k h in
    let items = two_items d has.0 in
    let inside = subst (λ x. both_of kept_made (item_form as_str 0 x) (item_form form.digest_form 1 x) ≡ Some k) items.2 has.1 in
    let found = kept_here items.0 items.1 k inside in
    (items.2 ∙ found.0, found.1)

kept_complete : (k : KeptDigest) → form.kept_fits k ≡ true → form.kept_form (digest_data k) ≡ Some k
kept_complete k h = rw (digest_exact.complete k.digest h) refl

kept_exact : Exact form.kept_form digest_data form.kept_fits
kept_exact = record { sound = kept_sound; complete = kept_complete }

-- ---- locations

abbrev small : ℕ → Bool
small n = nat_lt n (2 ^ 16)

abbrev wide : ℕ → Bool
wide n = nat_lt n (2 ^ 64)

abbrev location_small : ℕ × ℕ → Bool
location_small p = small p.0 && small p.1

abbrev location_made : ℕ → ℕ → ℕ × ℕ
location_made s p = (s, p)

record LocationIs (a b : Data) (location : ℕ × ℕ) : Type 0 where
  switch : a ≡ number_data location.0
  port : b ≡ number_data location.1
  fits : location_small location ≡ true

location_sound : (a b : Data) (location : ℕ × ℕ) → both_of location_made (number_form (2 ^ 16) a) (number_form (2 ^ 16) b) ≡ Some location → LocationIs a b location
location_sound a b location h =
    let parts = both_parts location_made _ _ location h in
    let switch = (number_exact (2 ^ 16)).sound a parts.0 parts.2 in
    let port = (number_exact (2 ^ 16)).sound b parts.1 parts.3 in
    subst (λ p. LocationIs a b p) parts.4 (record { switch = switch.0; port = port.0; fits = and_from (small parts.0) (small parts.1) switch.1 port.1 })

location_complete : (s p : ℕ) → location_small (s, p) ≡ true → both_of location_made (number_form (2 ^ 16) (number_data s)) (number_form (2 ^ 16) (number_data p)) ≡ Some (s, p)
location_complete s p h =
    let parts = and_parts (small s) (small p) h in
    rw ((number_exact (2 ^ 16)).complete s parts.0, (number_exact (2 ^ 16)).complete p parts.1) refl

-- ---- hosts

one_item : (d : Data) → has_items 1 d ≡ true → (a : Data) × (d ≡ array (item a no_items))
one_item d h =
    let all = array_has d 1 h in
    let first = one_more all.0 0 all.2 in
    (first.0, all.1 ∙ ap array (first.2 ∙ ap (item first.0) (no_more first.1 first.3)))

three_items : (d : Data) → has_items 3 d ≡ true → (a b c : Data) × (d ≡ array (item a (item b (item c no_items))))
three_items d h =
    let all = array_has d 3 h in
    let first = one_more all.0 2 all.2 in
    let second = one_more first.1 1 first.3 in
    let third = one_more second.1 0 second.3 in (
      first.0,
      second.0,
      third.0,
      all.1 ∙ ap array (first.2 ∙ ap (item first.0) (second.2 ∙ ap (item second.0) (third.2 ∙ ap (item third.0) (no_more third.1 third.3)))),
    )

abbrev attach_small : Option (ℕ × ℕ) → Bool
attach_small None = true
attach_small (Some at) = location_small at

abbrev host_small : HostPort → Bool
host_small h = wide h.host && attach_small h.attach

abbrev alone : ℕ → HostPort
alone h = record { host = h; attach = None }

abbrev attached : ℕ → ℕ × ℕ → HostPort
attached h location = record { host = h; attach = Some location }

if_either : {A : Type 0} (b c : Bool) (o p : Option A) (x : A) → (if b then o else (if c then p else None)) ≡ Some x → ((b ≡ true) × (o ≡ Some x)) ⊎ ((c ≡ true) × (p ≡ Some x))
if_either true c o p x h = inl (refl, h)
if_either false c o p x h = inr (if_parts c p x h)

alone_here : (a : Data) (x : HostPort) → option_map alone (number_form (2 ^ 64) a) ≡ Some x → (these (a ∷ []) ≡ host_data x) × (host_small x ≡ true)
alone_here a x h =
    let parts = map_parts alone _ x h in
    let host = (number_exact (2 ^ 64)).sound a parts.0 parts.1 in
    (ap (λ y. these (y ∷ [])) host.0 ∙ ap host_data parts.2, subst (λ y. host_small y ≡ true) parts.2 (and_from (wide parts.0) true host.1 refl))

three_same : (a b c x y z : Data) → a ≡ x → b ≡ y → c ≡ z → these (a ∷ b ∷ c ∷ []) ≡ these (x ∷ y ∷ z ∷ [])
three_same a b c x y z h i j = cc

attached_here : (a b c : Data) (x : HostPort) → both_of attached (number_form (2 ^ 64) a) (both_of location_made (number_form (2 ^ 16) b) (number_form (2 ^ 16) c)) ≡ Some x
    → (these (a ∷ b ∷ c ∷ []) ≡ host_data x) × (host_small x ≡ true)
attached_here a b c x h =
    let parts = both_parts attached _ _ x h in
    let host = (number_exact (2 ^ 64)).sound a parts.0 parts.2 in
    let location = location_sound b c parts.1 parts.3 in (
      three_same _ _ _ _ _ _ host.0 location.switch location.port ∙ ap host_data parts.4,
      subst (λ y. host_small y ≡ true) parts.4 (and_from (wide parts.0) (location_small parts.1) host.1 location.fits),
    )

host_sound : (d : Data) (x : HostPort) → form.host_form d ≡ Some x → (d ≡ host_data x) × (host_small x ≡ true)
host_sound d x h = elim (if_either (has_items 1 d) (has_items 3 d) _ _ x h) [
  | inl has ↦
      let items = one_item d has.0 in
      let found = alone_here items.0 x (subst (λ y. option_map alone (item_form (number_form (2 ^ 64)) 0 y) ≡ Some x) items.1 has.1) in
      (items.1 ∙ found.0, found.1)
  | inr has ↦
      let items = three_items d has.0 in
      let found = attached_here items.0 items.1 items.2 x (subst (λ y. both_of attached (item_form (number_form (2 ^ 64)) 0 y) (form.location_form 1 y) ≡ Some x) items.3 has.1) in
      (items.3 ∙ found.0, found.1)
]

host_made : (h : ℕ) (at : Option (ℕ × ℕ)) → wide h ≡ true → attach_small at ≡ true → form.host_form (host_data (record { host = h; attach = at })) ≡ Some (record { host = h; attach = at })
host_made h None w s = rw ((number_exact (2 ^ 64)).complete h w) refl
host_made h (Some at) w s = rw ((number_exact (2 ^ 64)).complete h w, location_complete at.0 at.1 s) refl

host_complete : (x : HostPort) → host_small x ≡ true → form.host_form (host_data x) ≡ Some x
host_complete x h = let parts = and_parts (wide x.host) (attach_small x.attach) h in host_made x.host x.attach parts.0 parts.1

host_exact : Exact form.host_form host_data host_small
host_exact = record { sound = host_sound; complete = host_complete }

-- ---- links

four_items : (d : Data) → has_items 4 d ≡ true → (a b c e : Data) × (d ≡ these (a ∷ b ∷ c ∷ e ∷ []))
four_items d h =
    let all = array_has d 4 h in
    let first = one_more all.0 3 all.2 in
    let second = one_more first.1 2 first.3 in
    let third = one_more second.1 1 second.3 in
    let fourth = one_more third.1 0 third.3 in (
      first.0,
      second.0,
      third.0,
      fourth.0,
      all.1
          ∙ ap array (first.2 ∙ ap (item first.0) (second.2 ∙ ap (item second.0) (third.2 ∙ ap (item third.0) (fourth.2 ∙ ap (item fourth.0) (no_more fourth.1 fourth.3))))),
    )

five_items : (d : Data) → has_items 5 d ≡ true → (a b c e f : Data) × (d ≡ these (a ∷ b ∷ c ∷ e ∷ f ∷ []))
five_items d h =
    let all = array_has d 5 h in
    let first = one_more all.0 4 all.2 in
    let second = one_more first.1 3 first.3 in
    let third = one_more second.1 2 second.3 in
    let fourth = one_more third.1 1 third.3 in
    let fifth = one_more fourth.1 0 fourth.3 in (
      first.0,
      second.0,
      third.0,
      fourth.0,
      fifth.0,
      all.1
          ∙ ap array
          (first.2 ∙ ap (item first.0) (second.2 ∙ ap (item second.0) (third.2 ∙ ap (item third.0) (fourth.2 ∙ ap (item fourth.0) (fifth.2 ∙ ap (item fifth.0) (no_more fifth.1 fifth.3)))))),
    )

abbrev end_small : LinkEnd → Bool
end_small (to_host h) = wide h
end_small (to_switch s p) = location_small (s, p)

abbrev link_small : Link → Bool
link_small l = location_small (l.switch, l.port) && end_small l.to

-- a link from a location that two values give
abbrev link_from : Data → Data → LinkEnd → Data
link_from a b (to_host h) = these (a ∷ b ∷ string (codes "host") ∷ number_data h ∷ [])
link_from a b (to_switch s p) = these (a ∷ b ∷ string (codes "switch") ∷ number_data s ∷ number_data p ∷ [])

-- the third of some items is this text
text_is : (text : List ℕ) (c : Data) → elim (as_str c) [ Some found ↦ bytes_eq found text | None ↦ false ] ≡ true → c ≡ string text
text_is text null h = absurd cc
text_is text (boolean b) h = absurd cc
text_is text (number n) h = absurd cc
text_is text (string s) h = ap string ((bytes_eq-Decides s text).0 h)
text_is text (array ds) h = absurd cc
text_is text (object ms) h = absurd cc

abbrev location_end : ℕ × ℕ → LinkEnd
location_end location = to_switch location.0 location.1

abbrev EndIs : Data → LinkEnd → Type 0
EndIs d e = (a b : Data) × (d ≡ link_from a b e) × (end_small e ≡ true)

end_sound : (d : Data) (e : LinkEnd) → form.end_form d ≡ Some e → EndIs d e
end_sound d e h = elim (if_either (has_items 4 d && form.has_text (codes "host") 2 d) (has_items 5 d && form.has_text (codes "switch") 2 d) _ _ e h) [
  | inl has ↦
      let tests = and_parts (has_items 4 d) (form.has_text (codes "host") 2 d) has.0 in
      let items = four_items d tests.0 in
      let text = text_is (codes "host") items.2 (subst (λ y. form.has_text (codes "host") 2 y ≡ true) items.4 tests.1) in
      let parts = map_parts (λ (n : ℕ). to_host n) _ e (subst (λ y. option_map (λ n. to_host n) (item_form (number_form (2 ^ 64)) 3 y) ≡ Some e) items.4 has.1) in
      let host = (number_exact (2 ^ 64)).sound items.3 parts.0 parts.1 in (
        items.0,
        items.1,
        items.4 ∙ ap₂ (λ x y. these (items.0 ∷ items.1 ∷ x ∷ y ∷ [])) text host.0 ∙ ap (link_from items.0 items.1) parts.2,
        subst (λ x. end_small x ≡ true) parts.2 host.1,
      )
  | inr has ↦
      let tests = and_parts (has_items 5 d) (form.has_text (codes "switch") 2 d) has.0 in
      let items = five_items d tests.0 in
      let text = text_is (codes "switch") items.2 (subst (λ y. form.has_text (codes "switch") 2 y ≡ true) items.5 tests.1) in
      let parts = map_parts location_end _ e (subst (λ y. option_map location_end (form.location_form 3 y) ≡ Some e) items.5 has.1) in
      let location = location_sound items.3 items.4 parts.0 parts.1 in (
        items.0,
        items.1,
        items.5 ∙ ap₂ (λ x y. these (items.0 ∷ items.1 ∷ x ∷ y ∷ items.4 ∷ [])) text location.switch
            ∙ ap (λ y. these (items.0 ∷ items.1 ∷ string (codes "switch") ∷ number_data parts.0.0 ∷ y ∷ [])) location.port ∙ ap (link_from items.0 items.1) parts.2,
        subst (λ x. end_small x ≡ true) parts.2 location.fits,
      )
]

abbrev link_made : ℕ × ℕ → LinkEnd → Link
link_made location to = record { switch = location.0; port = location.1; to = to }

-- the location of a link
first_location : (a b : Data) (e : LinkEnd) → form.location_form 0 (link_from a b e) ≡ both_of location_made (number_form (2 ^ 16) a) (number_form (2 ^ 16) b)
first_location a b (to_host h) = refl
first_location a b (to_switch s p) = refl

link_data_from : (s p : ℕ) (e : LinkEnd) → link_from (number_data s) (number_data p) e ≡ link_data (record { switch = s; port = p; to = e })
link_data_from s p (to_host h) = refl
link_data_from s p (to_switch t q) = refl

link_sound : (d : Data) (l : Link) → form.link_form d ≡ Some l → (d ≡ link_data l) × (link_small l ≡ true)
link_sound d l h =
    let parts = both_parts link_made (form.location_form 0 d) (form.end_form d) l h in
    let end = end_sound d parts.1 parts.3 in
    let there = sym (first_location end.0 end.1 parts.1) ∙ sym (ap (form.location_form 0) end.2) ∙ parts.2 in
    let location = location_sound end.0 end.1 parts.0 there in (
      end.2 ∙ ap₂ (λ x y. link_from x y parts.1) location.switch location.port ∙ link_data_from parts.0.0 parts.0.1 parts.1 ∙ ap link_data parts.4,
      subst (λ x. link_small x ≡ true) parts.4 (and_from (location_small parts.0) (end_small parts.1) location.fits end.3),
    )

end_made : (a b : Data) (e : LinkEnd) → end_small e ≡ true → form.end_form (link_from a b e) ≡ Some e
end_made a b (to_host h) s = rw ((number_exact (2 ^ 64)).complete h s) refl
end_made a b (to_switch t q) s = rw (location_complete t q s) refl

link_built : (s p : ℕ) (e : LinkEnd) → location_small (s, p) ≡ true → end_small e ≡ true
    → form.link_form (link_from (number_data s) (number_data p) e) ≡ Some (record { switch = s; port = p; to = e })
link_built s p e h i =
    ap₂ (both_of link_made) (first_location (number_data s) (number_data p) e ∙ location_complete s p h) (end_made (number_data s) (number_data p) e i)

link_complete : (l : Link) → link_small l ≡ true → form.link_form (link_data l) ≡ Some l
link_complete l h =
    let parts = and_parts (location_small (l.switch, l.port)) (end_small l.to) h in
    ap form.link_form (sym (link_data_from l.switch l.port l.to)) ∙ link_built l.switch l.port l.to parts.0 parts.1

link_exact : Exact form.link_form link_data link_small
link_exact = record { sound = link_sound; complete = link_complete }

-- ---- the wires

-- a host fits where its numbers do and its location is known
attach_both : (f : NetFile) (h : ℕ) (at : Option (ℕ × ℕ)) → wide h ≡ true → form.host_fits (Some f.ports) (Some f.switches) (record { host = h; attach = at }) ≡ true
    → wire.host_fits (file_wiring f) (record { host = h; attach = at }) ≡ true
attach_both f h None w i = and_from (wide h) true w refl
attach_both f h (Some at) w i = and_from (wide h) (wire.is_location (file_wiring f) at.0 at.1) w i

host_both : (f : NetFile) (x : HostPort) → host_small x ≡ true → form.host_fits (Some f.ports) (Some f.switches) x ≡ true → wire.host_fits (file_wiring f) x ≡ true
host_both f x s i = attach_both f x.host x.attach (and_parts (wide x.host) (attach_small x.attach) s).0 i

-- a location of the network has small numbers
location_within : (ports : ℕ) (switches : List ℕ) (s p : ℕ) → small ports ≡ true → each small switches ≡ true → (has_number s switches && nat_lt p ports) ≡ true → location_small (s, p) ≡ true
location_within ports switches s p h i j =
    let parts = and_parts (has_number s switches) (nat_lt p ports) j in
    let most : ports < 2 ^ 16 = ltb-true ports (2 ^ 16) h in
    let less : p < ports = ltb-true p ports parts.1 in
    and_from (small s) (small p) (among small s switches parts.0 i) (lt-ltb p (2 ^ 16) (omega (arith, most, less)))

attach_within : (f : NetFile) (h : ℕ) (at : Option (ℕ × ℕ)) → small f.ports ≡ true → each small f.switches ≡ true → wire.host_fits (file_wiring f) (record { host = h; attach = at }) ≡ true
    → (host_small (record { host = h; attach = at }) ≡ true) × (form.host_fits (Some f.ports) (Some f.switches) (record { host = h; attach = at }) ≡ true)
attach_within f h None i j k = (k, refl)
attach_within f h (Some at) i j k =
    let parts = and_parts (wide h) (wire.is_location (file_wiring f) at.0 at.1) k in
    (and_from (wide h) (location_small at) parts.0 (location_within f.ports f.switches at.0 at.1 i j parts.1), parts.1)

host_within : (f : NetFile) → small f.ports ≡ true → each small f.switches ≡ true → (x : HostPort) → wire.host_fits (file_wiring f) x ≡ true
    → (host_small x ≡ true) × (form.host_fits (Some f.ports) (Some f.switches) x ≡ true)
host_within f i j x k = attach_within f x.host x.attach i j k

-- the same of links
end_same : (f : NetFile) (e : LinkEnd) → form.end_fits (Some f.ports) (Some f.switches) (Some (wire.host_numbers f.hosts)) e ≡ wire.end_fits (file_wiring f) e
end_same f (to_host h) = refl
end_same f (to_switch s p) = refl

link_same : (f : NetFile) (l : Link) → form.link_fits (Some f.ports) (Some f.switches) (Some (wire.host_numbers f.hosts)) l ≡ wire.link_fits (file_wiring f) l
link_same f l = ap (λ b. wire.is_location (file_wiring f) l.switch l.port && b) (end_same f l.to)

host_numbers_small : (f : NetFile) (xs : List HostPort) → each (wire.host_fits (file_wiring f)) xs ≡ true → each wide (wire.host_numbers xs) ≡ true
host_numbers_small f [] h = refl
host_numbers_small f (x ∷ xs) h =
    let parts = and_parts (wire.host_fits (file_wiring f) x) (each (wire.host_fits (file_wiring f)) xs) h in
    and_from (wide x.host) _ (and_parts (wide x.host) (wire.attach_fits (file_wiring f) x.attach) parts.0).0 (host_numbers_small f xs parts.1)

end_within : (f : NetFile) → small f.ports ≡ true → each small f.switches ≡ true → each wide (wire.host_numbers f.hosts) ≡ true → (e : LinkEnd) → wire.end_fits (file_wiring f) e ≡ true → end_small e ≡ true
end_within f i j w (to_host h) k = among wide h (wire.host_numbers f.hosts) k w
end_within f i j w (to_switch s p) k = location_within f.ports f.switches s p i j k

link_within : (f : NetFile) → small f.ports ≡ true → each small f.switches ≡ true → each wide (wire.host_numbers f.hosts) ≡ true → (l : Link) → wire.link_fits (file_wiring f) l ≡ true → link_small l ≡ true
link_within f i j w l k =
    let parts = and_parts (wire.is_location (file_wiring f) l.switch l.port) (wire.end_fits (file_wiring f) l.to) k in
    and_from (location_small (l.switch, l.port)) (end_small l.to) (location_within f.ports f.switches l.switch l.port i j parts.0) (end_within f i j w l.to parts.1)

-- ---- the file

record AllThere (cocoon : Option ℕ) (design : Option (List ℕ)) (files : Option (List KeptDigest)) (hosts : Option (List HostPort)) (links : Option (List Link)) (ports : Option ℕ) (switches : Option (List ℕ)) (f : NetFile) : Type 0 where
  one : ℕ
  cocoon_is : cocoon ≡ Some one
  design_is : design ≡ Some f.design
  files_are : files ≡ Some f.files
  hosts_are : hosts ≡ Some f.hosts
  links_are : links ≡ Some f.links
  ports_are : ports ≡ Some f.ports
  switches_are : switches ≡ Some f.switches

all_there : (a : Option ℕ) (b : Option (List ℕ)) (c : Option (List KeptDigest)) (d : Option (List HostPort)) (e : Option (List Link)) (g : Option ℕ) (h : Option (List ℕ)) (f : NetFile)
    → form.all_members a b c d e g h ≡ Ok f → AllThere a b c d e g h f
all_there None b c d e g h f k = absurd (err_ok _ f k)
all_there (Some n) None c d e g h f k = absurd (err_ok _ f k)
all_there (Some n) (Some b) None d e g h f k = absurd (err_ok _ f k)
all_there (Some n) (Some b) (Some c) None e g h f k = absurd (err_ok _ f k)
all_there (Some n) (Some b) (Some c) (Some d) None g h f k = absurd (err_ok _ f k)
all_there (Some n) (Some b) (Some c) (Some d) (Some e) None h f k = absurd (err_ok _ f k)
all_there (Some n) (Some b) (Some c) (Some d) (Some e) (Some g) None f k = absurd (err_ok _ f k)
all_there (Some n) (Some b) (Some c) (Some d) (Some e) (Some g) (Some h) f k =
    subst (λ x. AllThere (Some n) (Some b) (Some c) (Some d) (Some e) (Some g) (Some h) x) (ok_same _ f k)
    (record { one = n; cocoon_is = refl; design_is = refl; files_are = refl; hosts_are = refl; links_are = refl; ports_are = refl; switches_are = refl })

-- an object with the keys
abbrev seven : (a b c d e g h : Data) → Data
seven a b c d e g h = object (member (codes "cocoon") a (member (codes "design") b (member (codes "files") c (member (codes "hosts") d (member (codes "links") e (member (codes "ports") g (member (codes "switches") h no_members)))))))

seven_same : (a b c d e g h a' b' c' d' e' g' h' : Data) → a ≡ a' → b ≡ b' → c ≡ c' → d ≡ d' → e ≡ e' → g ≡ g' → h ≡ h' → seven a b c d e g h ≡ seven a' b' c' d' e' g' h'
seven_same a b c d e g h a' b' c' d' e' g' h' h1 h2 h3 h4 h5 h6 h7 = cc

seven_members : (d : Data) → has_keys form.net_keys d ≡ true → (a b c e g h i : Data) × (d ≡ seven a b c e g h i)
seven_members d has =
    let all = object_has form.net_keys d has in
    let m1 = next_key (codes "cocoon") (codes "design" ∷ codes "files" ∷ codes "hosts" ∷ codes "links" ∷ codes "ports" ∷ codes "switches" ∷ []) all.0 all.2 in
    let m2 = next_key (codes "design") (codes "files" ∷ codes "hosts" ∷ codes "links" ∷ codes "ports" ∷ codes "switches" ∷ []) m1.1 m1.3 in
    let m3 = next_key (codes "files") (codes "hosts" ∷ codes "links" ∷ codes "ports" ∷ codes "switches" ∷ []) m2.1 m2.3 in
    let m4 = next_key (codes "hosts") (codes "links" ∷ codes "ports" ∷ codes "switches" ∷ []) m3.1 m3.3 in
    let m5 = next_key (codes "links") (codes "ports" ∷ codes "switches" ∷ []) m4.1 m4.3 in
    let m6 = next_key (codes "ports") (codes "switches" ∷ []) m5.1 m5.3 in
    let m7 = next_key (codes "switches") [] m6.1 m6.3 in (
      m1.0,
      m2.0,
      m3.0,
      m4.0,
      m5.0,
      m6.0,
      m7.0,
      all.1 ∙ ap object (m1.2 ∙ ap (member (codes "cocoon") m1.0) (m2.2 ∙ ap (member (codes "design") m2.0) (m3.2 ∙ ap (member (codes "files") m3.0)
          (m4.2 ∙ ap (member (codes "hosts") m4.0) (m5.2 ∙ ap (member (codes "links") m5.0) (m6.2 ∙ ap (member (codes "ports") m6.0) (m7.2 ∙ ap (member (codes "switches") m7.0) (last_key m7.1 m7.3)))))))),
    )

one_sound : (d : Data) (n : ℕ) → fitting (λ m. m == 1) (number_form (2 ^ 64) d) ≡ Some n → d ≡ number_data 1
one_sound d n h =
    let parts = fitting_parts (λ m. m == 1) (number_form (2 ^ 64) d) n h in
    ((number_exact (2 ^ 64)).sound d n parts.0).0 ∙ ap number_data (eqb-true n 1 parts.1)

kepts_exact : Exact (list_form form.kept_form) (array_data digest_data) (each form.kept_fits)
kepts_exact = list_exact _ _ _ kept_exact

hosts_exact : Exact (list_form form.host_form) (array_data host_data) (each host_small)
hosts_exact = list_exact _ _ _ host_exact

links_exact : Exact (list_form form.link_form) (array_data link_data) (each link_small)
links_exact = list_exact _ _ _ link_exact

smalls_exact : Exact (list_form (number_form (2 ^ 16))) (array_data number_data) (each small)
smalls_exact = list_exact _ _ _ (number_exact (2 ^ 16))

-- what each member of a file is
record Read (a b c d e g h : Data) (f : NetFile) : Type 0 where
  cocoon : a ≡ number_data 1
  design : (b ≡ string f.design) × (is_digest f.design ≡ true)
  kepts : (c ≡ array_data digest_data f.files) × (each form.kept_fits f.files ≡ true)
  names : form.are_names (form.file_names f.switches) f.files ≡ true
  hosts : (d ≡ array_data host_data f.hosts) × (each host_small f.hosts ≡ true)
  attached : each (form.host_fits (Some f.ports) (Some f.switches)) f.hosts ≡ true
  hosts_ascend : ascend (wire.host_numbers f.hosts) ≡ true
  links : (e ≡ array_data link_data f.links) × (each link_small f.links ≡ true)
  joined : each (form.link_fits (Some f.ports) (Some f.switches) (Some (wire.host_numbers f.hosts))) f.links ≡ true
  links_ascend : wire.pairs_ascend (map (λ (l : Link). (l.switch, l.port)) f.links) ≡ true
  ports : (g ≡ number_data f.ports) × (small f.ports ≡ true)
  switches : (h ≡ array_data number_data f.switches) × (each small f.switches ≡ true)
  switches_ascend : ascend f.switches ≡ true

read_of : (a b c d e g h : Data) (f : NetFile) → form.net_form (seven a b c d e g h) ≡ Ok f → Read a b c d e g h f
read_of a b c d e g h f k =
    let o = seven a b c d e g h in
    let all = all_there (form.cocoon_of o) (form.design_of o) (form.files_of o) (form.hosts_of o) (form.links_of o) (form.ports_of o) (form.switches_of o) f k in
    let switches = fitting_parts ascend (list_form (number_form (2 ^ 16)) h) f.switches all.switches_are in
    let files = fitting_parts (form.files_fit (form.switches_of o)) (list_form form.kept_form c) f.files all.files_are in
    let hosts = fitting_parts (form.hosts_fit (form.ports_of o) (form.switches_of o)) (list_form form.host_form d) f.hosts all.hosts_are in
    let links = fitting_parts (form.links_fit (form.ports_of o) (form.switches_of o) (option_map wire.host_numbers (form.hosts_of o))) (list_form form.link_form e) f.links all.links_are in
    let hosts_fit = sym (ap₂ (λ p s. form.hosts_fit p s f.hosts) all.ports_are all.switches_are) ∙ hosts.1 in
    let links_fit = sym (ap₂ (λ p s. form.links_fit p s (option_map wire.host_numbers (form.hosts_of o)) f.links) all.ports_are all.switches_are ∙ ap (λ x. form.links_fit (Some f.ports) (Some f.switches) (option_map wire.host_numbers x) f.links) all.hosts_are) ∙ links.1 in
    let host_rules = and_parts (each (form.host_fits (Some f.ports) (Some f.switches)) f.hosts) (ascend (wire.host_numbers f.hosts)) hosts_fit in
    let link_rules = and_parts (each (form.link_fits (Some f.ports) (Some f.switches) (Some (wire.host_numbers f.hosts))) f.links) (wire.pairs_ascend (map (λ (l : Link). (l.switch, l.port)) f.links)) links_fit in
    record {
      cocoon = one_sound a all.one all.cocoon_is;
      design = digest_sound b f.design all.design_is;
      kepts = kepts_exact.sound c f.files files.0;
      names = sym (ap (λ s. form.files_fit s f.files) all.switches_are) ∙ files.1;
      hosts = hosts_exact.sound d f.hosts hosts.0;
      attached = host_rules.0;
      hosts_ascend = host_rules.1;
      links = links_exact.sound e f.links links.0;
      joined = link_rules.0;
      links_ascend = link_rules.1;
      ports = (number_exact (2 ^ 16)).sound g f.ports all.ports_are;
      switches = smalls_exact.sound h f.switches switches.0;
      switches_ascend = switches.1;
    }

read_fits : (a b c d e g h : Data) (f : NetFile) → Read a b c d e g h f → form.file_fits f ≡ true
read_fits a b c d e g h f r =
    let hosts = each_both host_small (form.host_fits (Some f.ports) (Some f.switches)) (wire.host_fits (file_wiring f)) (host_both f) f.hosts r.hosts.1 r.attached in
    let links = each_more (form.link_fits (Some f.ports) (Some f.switches) (Some (wire.host_numbers f.hosts))) (wire.link_fits (file_wiring f)) (λ l i. sym (link_same f l) ∙ i) f.links r.joined in
    let wires : wire.wiring_fits (file_wiring f) ≡ true =
    and_from _ _ (and_from _ _ (and_from _ _ (and_from _ _ (and_from _ _ (and_from _ _ r.ports.1 r.switches.1) r.switches_ascend) hosts) r.hosts_ascend) links) r.links_ascend in
    and_from _ _ (and_from _ _ (and_from (is_digest f.design) _ r.design.1 wires) r.kepts.1) r.names

net_sound : (d : Data) (f : NetFile) → form.net_form d ≡ Ok f → (d ≡ net_data f) × IsTrue (form.file_fits f)
net_sound d f h =
    let has = ok_parts (has_keys form.net_keys d) [] _ f h in
    let m = seven_members d has.0 in
    let r = read_of m.0 m.1 m.2 m.3 m.4 m.5 m.6 f (sym (ap form.net_form m.7) ∙ h) in
    (m.7 ∙ seven_same _ _ _ _ _ _ _ _ _ _ _ _ _ _ r.cocoon r.design.0 r.kepts.0 r.hosts.0 r.links.0 r.ports.0 r.switches.0, read_fits _ _ _ _ _ _ _ f r)

-- what is asked of each member of a file that fits
record Given (f : NetFile) : Type 0 where
  design : is_digest f.design ≡ true
  kepts : each form.kept_fits f.files ≡ true
  names : form.are_names (form.file_names f.switches) f.files ≡ true
  ports : small f.ports ≡ true
  switches : each small f.switches ≡ true
  switches_ascend : ascend f.switches ≡ true
  hosts : each (wire.host_fits (file_wiring f)) f.hosts ≡ true
  hosts_ascend : ascend (wire.host_numbers f.hosts) ≡ true
  links : each (wire.link_fits (file_wiring f)) f.links ≡ true
  links_ascend : wire.pairs_ascend (map (λ (l : Link). (l.switch, l.port)) f.links) ≡ true

given : (f : NetFile) → IsTrue (form.file_fits f) → Given f
given f h =
    let p1 = and_parts _ (form.are_names (form.file_names f.switches) f.files) h in
    let p2 = and_parts _ (each form.kept_fits f.files) p1.0 in
    let p3 = and_parts (is_digest f.design) _ p2.0 in
    let p4 = and_parts _ (wire.pairs_ascend (map (λ (l : Link). (l.switch, l.port)) f.links)) p3.1 in
    let p5 = and_parts _ (each (wire.link_fits (file_wiring f)) f.links) p4.0 in
    let p6 = and_parts _ (ascend (wire.host_numbers f.hosts)) p5.0 in
    let p7 = and_parts _ (each (wire.host_fits (file_wiring f)) f.hosts) p6.0 in
    let p8 = and_parts _ (ascend f.switches) p7.0 in
    let p9 = and_parts (small f.ports) (each small f.switches) p8.0 in
    record { design = p3.0; kepts = p2.1; names = p1.1; ports = p9.0; switches = p9.1; switches_ascend = p8.1; hosts = p7.1; hosts_ascend = p6.1; links = p5.1; links_ascend = p4.1 }

members_made : (a : Option ℕ) (b : Option (List ℕ)) (c : Option (List KeptDigest)) (d : Option (List HostPort)) (e : Option (List Link)) (g : Option ℕ) (h : Option (List ℕ)) (f : NetFile)
    → AllThere a b c d e g h f → form.all_members a b c d e g h ≡ Ok f
members_made a b c d e g h f t = rw (t.cocoon_is, t.design_is, t.files_are, t.hosts_are, t.links_are, t.ports_are, t.switches_are) refl

net_complete : (f : NetFile) → IsTrue (form.file_fits f) → form.net_form (net_data f) ≡ Ok f
net_complete f h =
    let q = given f h in
    let o = net_data f in
    let ports : form.ports_of o ≡ Some f.ports = (number_exact (2 ^ 16)).complete f.ports q.ports in
    let switches : form.switches_of o ≡ Some f.switches = fitting_from ascend _ f.switches (smalls_exact.complete f.switches q.switches) q.switches_ascend in
    let small_hosts = each_more (wire.host_fits (file_wiring f)) host_small (λ x k. (host_within f q.ports q.switches x k).0) f.hosts q.hosts in
    let attached = each_more (wire.host_fits (file_wiring f)) (form.host_fits (Some f.ports) (Some f.switches)) (λ x k. (host_within f q.ports q.switches x k).1) f.hosts q.hosts in
    let hosts_fit : form.hosts_fit (form.ports_of o) (form.switches_of o) f.hosts ≡ true =
    ap₂ (λ p s. form.hosts_fit p s f.hosts) ports switches ∙ and_from (each (form.host_fits (Some f.ports) (Some f.switches)) f.hosts) (ascend (wire.host_numbers f.hosts)) attached q.hosts_ascend in
    let hosts : form.hosts_of o ≡ Some f.hosts = fitting_from (form.hosts_fit (form.ports_of o) (form.switches_of o)) _ f.hosts (hosts_exact.complete f.hosts small_hosts) hosts_fit in
    let small_links = each_more (wire.link_fits (file_wiring f)) link_small (link_within f q.ports q.switches (host_numbers_small f f.hosts q.hosts)) f.links q.links in
    let joined = each_more (wire.link_fits (file_wiring f)) (form.link_fits (Some f.ports) (Some f.switches) (Some (wire.host_numbers f.hosts))) (λ l k. link_same f l ∙ k) f.links q.links in
    let links_fit : form.links_fit (form.ports_of o) (form.switches_of o) (option_map wire.host_numbers (form.hosts_of o)) f.links ≡ true =
    ap₂ (λ p s. form.links_fit p s (option_map wire.host_numbers (form.hosts_of o)) f.links) ports switches ∙ ap (λ x. form.links_fit (Some f.ports) (Some f.switches) (option_map wire.host_numbers x) f.links) hosts
    ∙ and_from (each (form.link_fits (Some f.ports) (Some f.switches) (Some (wire.host_numbers f.hosts))) f.links) (wire.pairs_ascend (map (λ (l : Link). (l.switch, l.port)) f.links)) joined q.links_ascend in
    members_made (form.cocoon_of o) (form.design_of o) (form.files_of o) (form.hosts_of o) (form.links_of o) (form.ports_of o) (form.switches_of o) f (record {
      one = 1;
      cocoon_is = refl;
      design_is = digest_exact.complete f.design q.design;
      files_are = fitting_from (form.files_fit (form.switches_of o)) _ f.files (kepts_exact.complete f.files q.kepts) (ap (λ s. form.files_fit s f.files) switches ∙ q.names);
      hosts_are = hosts;
      links_are = fitting_from (form.links_fit (form.ports_of o) (form.switches_of o) (option_map wire.host_numbers (form.hosts_of o))) _ f.links (links_exact.complete f.links small_links) links_fit;
      ports_are = ports;
      switches_are = switches;
    })

pub net_is_exact : (d : Data) (f : NetFile) → (form.net_form d ≡ Ok f) ↔ ((d ≡ net_data f) × IsTrue (form.file_fits f))
net_is_exact d f = (net_sound d f, λ h. ap form.net_form h.0 ∙ net_complete f h.1)
