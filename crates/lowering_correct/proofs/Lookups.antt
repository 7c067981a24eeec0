-- Look-ups in the lists of a network: of switches, of hosts, and of links that stand at ports.
use Rattle.std.proofs.Common.{◌≡◌, inl, inr, ℕ, zero, suc, ◌+◌, ◌<◌, ◌≤◌, ◌==◌, ◌&&◌, ◌||◌, Bool, true, false, List, [], ◌∷◌, map, Option, Some, None, if◌then◌else◌, refl, sym, ap, subst, ◌∙◌, arith}
use Rattle.std.specs.Prelude.{flat_map}
use Rattle.std.proofs.lemmas.Bool.{eqb-true}
use Rattle.std.proofs.lemmas.Bool.Decides.{nat_tests}
use Rattle.cocoon_num.specs.Lists.{has_number}
use Rattle.p4_ir.specs.NetRuns.{attach_at, link_at, switch_at}
use Rattle.p4_ir.specs.NetTree.{HostPort, Link, LinkEnd, SwitchFiles}
use Rattle.lowering_correct.specs.Network.{numbers_from}
use Rattle.lowering_correct.specs.Wires.{link_with}
use Rattle.sound_types.proofs.Members.{In, flat_in, in_flat}
use Rattle.sound_types.proofs.Options.{both_true, same_self}

-- ---- numbers

pub number_in : (n : ℕ) (ns : List ℕ) → has_number n ns ≡ true → In n ns
number_in n [] h = absurd (cc)
number_in n (m ∷ ns) h = by_case (n == m) refl h (number_in n ns)
  where
    by_case : (b : Bool) → (n == m) ≡ b → (b || has_number n ns) ≡ true → (has_number n ns ≡ true → In n ns) → In n (m ∷ ns)
    by_case true e k ih = inl (eqb-true n m e)
    by_case false e k ih = inr (ih k)

pub in_number : (n : ℕ) (ns : List ℕ) → In n ns → has_number n ns ≡ true
in_number n [] i = absurd i
in_number n (m ∷ ns) i = elim i [
  | inl e ↦ ap (λ b. b || has_number n ns) (ap (λ x. n == x) (sym e) ∙ same_self n)
  | inr k ↦ behind (n == m) (in_number n ns k)
]
  where
    behind : (b : Bool) → has_number n ns ≡ true → (b || has_number n ns) ≡ true
    behind true h = refl
    behind false h = h

pub in_numbers : (k n p : ℕ) → k ≤ p → p < k + n → In p (numbers_from k n)
in_numbers k zero p l h = absurd (omega (arith, l, h))
in_numbers k (suc n) p l h = by_case (p == k) refl (λ m. in_numbers (suc k) n p m (omega (arith, h)))
  where
    later : (p == k) ≡ false → k ≤ p → suc k ≤ p
    later e l = grind (arith, nat_tests, e, l)

    by_case : (b : Bool) → (p == k) ≡ b → (suc k ≤ p → In p (numbers_from (suc k) n)) → In p (k ∷ numbers_from (suc k) n)
    by_case true e ih = inl (eqb-true p k e)
    by_case false e ih = inr (ih (later e l))

pub numbers_below : (k n p : ℕ) → In p (numbers_from k n) → p < k + n
numbers_below k zero p i = absurd i
numbers_below k (suc n) p i = elim i [
  | inl e ↦ omega (arith, e)
  | inr j ↦ let l = numbers_below (suc k) n p j in omega (arith, l)
]

-- ---- switches

module _ (files : ℕ → SwitchFiles) (own : (n : ℕ) → (files n).number ≡ n) where
  pub switch_found : (ns : List ℕ) (s : ℕ) (f : SwitchFiles) → switch_at (map files ns) s ≡ Some f → (has_number s ns ≡ true) × (f ≡ files s)
  switch_found [] s f h = absurd (cc)
  switch_found (n ∷ ns) s f h = by_case ((files n).number == s) refl h (switch_found ns s f)
    where
      behind : (b : Bool) → has_number s ns ≡ true → (b || has_number s ns) ≡ true
      behind true k = refl
      behind false k = k

      by_case : (b : Bool) → ((files n).number == s) ≡ b → (if b then Some (files n) else switch_at (map files ns) s) ≡ Some f
          → (switch_at (map files ns) s ≡ Some f → (has_number s ns ≡ true) × (f ≡ files s)) → (has_number s (n ∷ ns) ≡ true) × (f ≡ files s)
      by_case true e k ih =
          let is : n ≡ s = sym (own n) ∙ eqb-true (files n).number s e in
          let same : files n ≡ f = cc in
          (in_number s (n ∷ ns) (inl (sym is)), sym same ∙ ap files is)
      by_case false e k ih = let t = ih k in (behind (s == n) t.0, t.1)

  pub switch_there : (ns : List ℕ) (s : ℕ) → has_number s ns ≡ true → switch_at (map files ns) s ≡ Some (files s)
  switch_there [] s h = absurd (cc)
  switch_there (n ∷ ns) s h = by_case ((files n).number == s) refl (number_in s (n ∷ ns) h) (switch_there ns s)
    where
      apart : ((files n).number == s) ≡ false → s ≡ n → ⊥
      apart e k = let same : (files n).number ≡ s = own n ∙ sym k in grind (arith, e, same)

      by_case : (b : Bool) → ((files n).number == s) ≡ b → In s (n ∷ ns) → (has_number s ns ≡ true → switch_at (map files ns) s ≡ Some (files s)) → (if b then Some (files n) else switch_at (map files ns) s) ≡ Some (files s)
      by_case true e i ih = ap (λ x. Some (files x)) (sym (own n) ∙ eqb-true (files n).number s e)
      by_case false e i ih = elim i [
        | inl k ↦ absurd (apart e k)
        | inr k ↦ ih (in_number s ns k)
      ]

-- ---- hosts

-- hosts with their attachments
abbrev pub host_with : (ℕ → Option (ℕ × ℕ)) → ℕ → HostPort
host_with attach a = record { host = a; attach = attach a }

module _ (attach : ℕ → Option (ℕ × ℕ)) where
  pub attach_found : (ns : List ℕ) (a : ℕ) (x : ℕ × ℕ) → attach_at (map (host_with attach) ns) a ≡ Some x → (has_number a ns ≡ true) × (attach a ≡ Some x)
  attach_found [] a x h = absurd (cc)
  attach_found (n ∷ ns) a x h = by_case (n == a) refl h (attach_found ns a x)
    where
      behind : (b : Bool) → has_number a ns ≡ true → (b || has_number a ns) ≡ true
      behind true k = refl
      behind false k = k

      by_case : (b : Bool) → (n == a) ≡ b → (if b then attach n else attach_at (map (host_with attach) ns) a) ≡ Some x
          → (attach_at (map (host_with attach) ns) a ≡ Some x → (has_number a ns ≡ true) × (attach a ≡ Some x)) → (has_number a (n ∷ ns) ≡ true) × (attach a ≡ Some x)
      by_case true e k ih = let is = eqb-true n a e in (in_number a (n ∷ ns) (inl (sym is)), ap attach (sym is) ∙ k)
      by_case false e k ih = let t = ih k in (behind (a == n) t.0, t.1)

  pub attach_there : (ns : List ℕ) (a : ℕ) → has_number a ns ≡ true → attach_at (map (host_with attach) ns) a ≡ attach a
  attach_there [] a h = absurd (cc)
  attach_there (n ∷ ns) a h = by_case (n == a) refl (number_in a (n ∷ ns) h) (attach_there ns a)
    where
      apart : (n == a) ≡ false → a ≡ n → ⊥
      apart e k = grind (arith, e, k)

      by_case : (b : Bool) → (n == a) ≡ b → In a (n ∷ ns) → (has_number a ns ≡ true → attach_at (map (host_with attach) ns) a ≡ attach a) → (if b then attach n else attach_at (map (host_with attach) ns) a) ≡ attach a
      by_case true e i ih = ap attach (eqb-true n a e)
      by_case false e i ih = elim i [
        | inl k ↦ absurd (apart e k)
        | inr k ↦ ih (in_number a ns k)
      ]

-- ---- links

-- a link that is found is one of the list
link_found : (ls : List Link) (s p : ℕ) (e : LinkEnd) → link_at ls s p ≡ Some e → (l : Link) × In l ls × (l.switch ≡ s) × (l.port ≡ p) × (l.to ≡ e)
link_found [] s p e h = absurd (cc)
link_found (l ∷ ls) s p e h = by_case (l.switch == s && l.port == p) refl h (link_found ls s p e)
  where
    by_case : (b : Bool) → (l.switch == s && l.port == p) ≡ b → (if b then Some l.to else link_at ls s p) ≡ Some e
        → (link_at ls s p ≡ Some e → (m : Link) × In m ls × (m.switch ≡ s) × (m.port ≡ p) × (m.to ≡ e)) → (m : Link) × In m (l ∷ ls) × (m.switch ≡ s) × (m.port ≡ p) × (m.to ≡ e)
    by_case true t k ih =
        let both = both_true (l.switch == s) (l.port == p) t in
        let same : l.to ≡ e = cc in
        (l, inl refl, eqb-true l.switch s both.0, eqb-true l.port p both.1, same)
    by_case false t k ih = let r = ih k in (r.0, inr r.1, r.2, r.3, r.4)

link_there : (ls : List Link) (l : Link) → In l ls → (e : LinkEnd) × (link_at ls l.switch l.port ≡ Some e)
link_there [] l i = absurd i
link_there (m ∷ ls) l i = by_case (m.switch == l.switch && m.port == l.port) refl i (link_there ls l)
  where
    both : (a b : ℕ) → (a == a && b == b) ≡ true
    both a b = λ k. same_self a k && same_self b k

    own : m ≡ l → (m.switch == l.switch && m.port == l.port) ≡ true
    own e = ap (λ (x : Link). m.switch == x.switch && m.port == x.port) (sym e) ∙ both m.switch m.port

    by_case : (b : Bool) → (m.switch == l.switch && m.port == l.port) ≡ b → In l (m ∷ ls) → (In l ls → (e : LinkEnd) × (link_at ls l.switch l.port ≡ Some e)) → (e : LinkEnd) × ((if b then Some m.to else link_at ls l.switch l.port) ≡ Some e)
    by_case true t j ih = (m.to, refl)
    by_case false t j ih = elim j [
      | inl e ↦ let no : false ≡ true = sym t ∙ own (sym e) in absurd (cc)
      | inr k ↦ ih k
    ]

module _ (end : ℕ → ℕ → Option LinkEnd) (ports : ℕ) where
  -- the links of a switch, and those of some
  abbrev pub links_of : ℕ → List Link
  links_of s = flat_map (λ p. link_with s p (end s p)) (numbers_from 0 ports)

  abbrev pub all_links : List ℕ → List Link
  all_links switches = flat_map links_of switches

  one_link : (s p : ℕ) (o : Option LinkEnd) (l : Link) → In l (link_with s p o) → (l.switch ≡ s) × (l.port ≡ p) × (o ≡ Some l.to)
  one_link s p None l i = absurd i
  one_link s p (Some e) l i = elim i [
    | inl k ↦ (ap (λ (x : Link). x.switch) k, ap (λ (x : Link). x.port) k, ap (λ (x : Link). Some x.to) (sym k))
    | inr k ↦ absurd k
  ]

  -- a link of the list stands at a port of a switch, and leads where that does
  pub link_is : (switches : List ℕ) (l : Link) → In l (all_links switches) → (has_number l.switch switches ≡ true) × (l.port < ports) × (end l.switch l.port ≡ Some l.to)
  link_is switches l i =
      let s = flat_in links_of l switches i in
      let p = flat_in (λ q. link_with s.0 q (end s.0 q)) l (numbers_from 0 ports) s.2 in
      let is = one_link s.0 p.0 (end s.0 p.0) l p.2 in
      let below = numbers_below 0 ports p.0 p.1 in (
        ap (λ x. has_number x switches) is.0 ∙ in_number s.0 switches s.1,
        subst (λ x. x < ports) (sym is.1) (omega (arith, below)),
        (λ k. end (is.0 k) (is.1 k)) ∙ is.2,
      )

  pub linked : (switches : List ℕ) (s p : ℕ) (e : LinkEnd) → link_at (all_links switches) s p ≡ Some e → (has_number s switches ≡ true) × (p < ports) × (end s p ≡ Some e)
  linked switches s p e h =
      let l = link_found (all_links switches) s p e h in
      let is = link_is switches l.0 l.1 in (
        ap (λ x. has_number x switches) (sym l.2) ∙ is.0,
        subst (λ x. x < ports) l.3 is.1,
        (λ k. end (sym l.2 k) (sym l.3 k)) ∙ is.2 ∙ ap Some l.4,
      )

  there : (s p : ℕ) (o : Option LinkEnd) (e : LinkEnd) → o ≡ Some e → In (record { switch = s; port = p; to = e }) (link_with s p o)
  there s p None e h = absurd (cc)
  there s p (Some f) e h = let same : f ≡ e = cc in inl (ap (λ x. record { switch = s; port = p; to = x }) (sym same))

  pub linked_there : (switches : List ℕ) (s p : ℕ) (e : LinkEnd) → has_number s switches ≡ true → p < ports → end s p ≡ Some e → link_at (all_links switches) s p ≡ Some e
  linked_there switches s p e h l k =
      let here : Link = record { switch = s; port = p; to = e } in
      let at = in_flat links_of s switches here (number_in s switches h)
      (in_flat (λ q. link_with s q (end s q)) p (numbers_from 0 ports) here (in_numbers 0 ports p (omega arith) (omega (arith, l))) (there s p (end s p) e k)) in
      let found = link_there (all_links switches) here at in
      let is = linked switches s p found.0 found.1 in
      found.1 ∙ sym is.2 ∙ k
