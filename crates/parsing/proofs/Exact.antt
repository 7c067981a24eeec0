-- A reading that is exact. What it gives is derived, in each text that has the same tokens up to where it ends. Where it
-- stops, some tokens end the phrase. It looks at no token past that where it ends, and none that it passes is the last
-- of a text.
use Rattle.std.specs.Prelude.{◌≡◌, ◌==◌, ℕ, zero, suc, ◌+◌, ◌≤◌, ◌<◌, Bool, true, false, List, [], ◌∷◌, ◌++◌, length, slice_get, Option, Some, None, if◌then◌else◌, codes, refl}
use Rattle.std.proofs.Common.{inl, inr, sym, ◌∙◌, ap, subst, arith}
use Rattle.std.proofs.lemmas.Bool.{cases_lt, and_parts, eqb-true}
use Rattle.std.proofs.lemmas.Option.{slice_get_within}
use Rattle.cocoon_num.specs.Names.{same_name}
use Rattle.cocoon_num.specs.Tree.{Name}
use Rattle.cocoon_num.specs.Tokens.{Kind, a_name, keyword, plain, literal, mark, finish}
use Rattle.cocoon_num.specs.Reads.{Is, Mark, Reserved, Named, Many, no_more, one_more, Commas, last, then_comma}
use Rattle.parsing.specs.PlainParser.{Outcome, good, bad, spent, after, is_mark, is_keyword, is_finish, name_at, plain_of, taken, marked, reserved, named, numbered, many_from, some_from, commas_from}

-- the same tokens below an index
abbrev pub Agree : List Kind → List Kind → ℕ → Type 0
Agree ts us n = (k : ℕ) → k < n → slice_get ts k ≡ slice_get us k

-- no token from i up to j is the last of a text
abbrev pub Clean : List Kind → ℕ → ℕ → Type 0
Clean ts i j = (k : ℕ) → i ≤ k → k < j → is_finish (slice_get ts k) ≡ false

-- these tokens stand from an index on
abbrev pub At : List Kind → ℕ → List Kind → Type 0
At us p [] = Unit {0}
At us p (k ∷ w) = Is us p k × At us (suc p) w

-- P us x j: in the text us a phrase with the tree x ends before j. F us: what is read in us, from p on.
pub record GoodRead {A : Type 0} (P : List Kind → A → ℕ → Type 0) (F : List Kind → Outcome A) (ts : List Kind) (p : ℕ) (x : A) (j : ℕ) : Type 0 where
  pub forward : p ≤ j
  pub within : j ≤ length ts
  pub clean : Clean ts p j
  pub holds : (us : List Kind) → Agree ts us j → P us x j
  pub stays : (us : List Kind) → Agree ts us (suc j) → F us ≡ good x j

pub record BadRead {A : Type 0} (P : List Kind → A → ℕ → Type 0) (F : List Kind → Outcome A) (ts : List Kind) (p : ℕ) (r : ℕ) : Type 0 where
  pub forward : p ≤ r
  pub within : r ≤ length ts
  pub clean : Clean ts p r
  pub ends : List Kind
  pub holds : (us : List Kind) → Agree ts us r → At us r ends → (x : A) × P us x (r + length ends)
  pub stays : (us : List Kind) → Agree ts us (suc r) → F us ≡ bad r

abbrev pub Justifies : {A : Type 0} → (List Kind → A → ℕ → Type 0) → (List Kind → Outcome A) → List Kind → ℕ → Outcome A → Type 0
Justifies P F ts p (good x j) = GoodRead P F ts p x j
Justifies P F ts p (bad r) = BadRead P F ts p r
Justifies P F ts p spent = Unit {0}

-- the tokens w end a phrase that begins at p
abbrev pub Ends : {A : Type 0} → (List Kind → A → ℕ → Type 0) → ℕ → List Kind → Type 0
Ends {A} P p w = (us : List Kind) → At us p w → (x : A) × P us x (p + length w)

pub record Exact {A : Type 0} (P : List Kind → A → ℕ → Type 0) (F : List Kind → Outcome A) (p : ℕ) (w : List Kind) : Type 0 where
  pub justified : (ts : List Kind) → p ≤ length ts → Justifies P F ts p (F ts)
  pub ends : Ends P p w

-- ---- tokens

pub text_is : (x y : List ℕ) → same_name x y ≡ true → x ≡ y
text_is [] [] h = refl
text_is [] (b ∷ y) h = absurd cc
text_is (a ∷ x) [] h = absurd cc
text_is (a ∷ x) (b ∷ y) h = let p = and_parts (a == b) (same_name x y) h in let e = eqb-true a b p.0 in let f = text_is x y p.1 in cc

pub mark_is : (m : List ℕ) (k : Option Kind) → is_mark m k ≡ true → k ≡ Some (mark m)
mark_is m None h = absurd cc
mark_is m (Some (a_name x)) h = absurd cc
mark_is m (Some (keyword x)) h = absurd cc
mark_is m (Some (plain n)) h = absurd cc
mark_is m (Some (literal w n)) h = absurd cc
mark_is m (Some (mark x)) h = ap (λ z. Some (mark z)) (sym (text_is m x h))
mark_is m (Some finish) h = absurd cc

pub reserved_word_is : (m : List ℕ) (k : Option Kind) → is_keyword m k ≡ true → k ≡ Some (keyword m)
reserved_word_is m None h = absurd cc
reserved_word_is m (Some (a_name x)) h = absurd cc
reserved_word_is m (Some (keyword x)) h = ap (λ z. Some (keyword z)) (sym (text_is m x h))
reserved_word_is m (Some (plain n)) h = absurd cc
reserved_word_is m (Some (literal w n)) h = absurd cc
reserved_word_is m (Some (mark x)) h = absurd cc
reserved_word_is m (Some finish) h = absurd cc

-- ---- tokens that stand in a row

pub first_at : (us : List Kind) (p : ℕ) (w v : List Kind) → At us p (w ++ v) → At us p w
first_at us p [] v h = tt
first_at us p (k ∷ w) v h = (h.0, first_at us (suc p) w v h.1)

pub second_at : (us : List Kind) (p : ℕ) (w v : List Kind) → At us p (w ++ v) → At us (p + length w) v
second_at us p [] v h = subst (λ q. At us q v) (let e : p ≡ p + 0 = omega arith in e) h
second_at us p (k ∷ w) v h = subst (λ q. At us q v) (let e : suc p + length w ≡ p + suc (length w) = omega arith in e) (second_at us (suc p) w v h.1)

length_join : (w v : List Kind) → length (w ++ v) ≡ length w + length v
length_join [] v = omega arith
length_join (k ∷ w) v = omega (arith, length_join w v)

-- ---- steps

-- the same reading, of another phrase
pub as_well : {A : Type 0} {P Q : List Kind → A → ℕ → Type 0} {F : List Kind → Outcome A} {p : ℕ} {w : List Kind} → ((us : List Kind) (x : A) (j : ℕ) → P us x j → Q us x j) → Exact P F p w → Exact Q F p w
as_well {A} {P} {Q} {F} {p} {w} f e = record { justified = λ ts h. over ts (F ts) (e.justified ts h); ends = λ us a. let d = e.ends us a in (d.0, f us d.0 (p + length w) d.1) }
  where
    over : (ts : List Kind) (r : Outcome A) → Justifies P F ts p r → Justifies Q F ts p r
    over ts (good x j) g = record { forward = g.forward; within = g.within; clean = g.clean; holds = λ us a. f us x j (g.holds us a); stays = g.stays }
    over ts (bad r) g = record { forward = g.forward; within = g.within; clean = g.clean; ends = g.ends; holds = λ us a b. let d = g.holds us a b in (d.0, f us d.0 (r + length g.ends) d.1); stays = g.stays }
    over ts spent g = tt

-- nothing more is read
pub done : {A : Type 0} {P : List Kind → A → ℕ → Type 0} (x : A) (j p : ℕ) → j ≡ p → ((us : List Kind) → P us x j) → Exact P (λ us. good x j) p []
done {A} {P} x j p e f = record {
  justified = λ ts h. record { forward = omega (arith, e); within = omega (arith, e); clean = λ k a b. absurd (omega (arith, e)); holds = λ us a. f us; stays = λ us a. refl };
  ends = λ us a. (x, subst (λ z. P us x z) (let d : j ≡ p + 0 = omega (arith, e) in d) (f us));
}

-- no token is taken
pub stopped : {A : Type 0} {P : List Kind → A → ℕ → Type 0} (p : ℕ) (w : List Kind) → Ends P p w → (ts : List Kind) → p ≤ length ts → Justifies P (λ us. bad p) ts p (bad p)
stopped p w f ts h = record { forward = omega arith; within = h; clean = λ k a b. absurd (omega arith); ends = w; holds = λ us a b. f us b; stays = λ us a. refl }

pub stops : {A : Type 0} {P : List Kind → A → ℕ → Type 0} (p : ℕ) (w : List Kind) → Ends P p w → Exact P (λ us. bad p) p w
stops p w f = record { justified = stopped p w f; ends = f }

-- by the token that stands at the index
pub by_token : {A : Type 0} {P : List Kind → A → ℕ → Type 0} (H : List Kind → Option Kind → Outcome A) (p : ℕ) {w : List Kind} → Ends P p w → ((k : Option Kind) (ts : List Kind) → p ≤ length ts → slice_get ts p ≡ k → Justifies P (λ us. H us k) ts p (H ts k)) → Exact P (λ us. H us (slice_get us p)) p w
by_token {A} {P} H p {w} f each = record { justified = λ ts h. over ts (slice_get ts p) refl (H ts (slice_get ts p)) (each (slice_get ts p) ts h refl); ends = f }
  where
    over : (ts : List Kind) (k : Option Kind) → slice_get ts p ≡ k → (r : Outcome A) → Justifies P (λ us. H us k) ts p r → Justifies P (λ us. H us (slice_get us p)) ts p r
    over ts k e (good x j) g = record { forward = g.forward; within = g.within; clean = g.clean; holds = g.holds; stays = λ us a. subst (λ o. H us o ≡ good x j) (sym e ∙ a p (omega (arith, g.forward))) (g.stays us a) }
    over ts k e (bad r) g = record { forward = g.forward; within = g.within; clean = g.clean; ends = g.ends; holds = g.holds; stays = λ us a. subst (λ o. H us o ≡ bad r) (sym e ∙ a p (omega (arith, g.forward))) (g.stays us a) }
    over ts k e spent g = tt

-- a token is taken, and the reading goes on
pub takes : {A : Type 0} {P : List Kind → A → ℕ → Type 0} {F : List Kind → Outcome A} {p : ℕ} (q : ℕ) {v : List Kind} (k : Kind) → q ≡ suc p → is_finish (Some k) ≡ false → Exact (λ us x j. Is us p k → P us x j) F q v → (ts : List Kind) → slice_get ts p ≡ Some k → Justifies P F ts p (F ts)
takes {A} {P} {F} {p} q {v} k e c f ts t = over (F ts) (f.justified ts (omega (arith, e, slice_get_within ts p k t)))
  where
    clear : (r : ℕ) → Clean ts q r → Clean ts p r
    clear r g i a b = elim (cases_lt i q) [ inl d ↦ let f : i ≡ p = omega (arith, a, d, e) in rw (f, t) c | inr d ↦ g i d b ]

    over : (r : Outcome A) → Justifies (λ us x j. Is us p k → P us x j) F ts q r → Justifies P F ts p r
    over (good x j) g = record { forward = omega (arith, e, g.forward); within = g.within; clean = clear j g.clean; holds = λ us a. g.holds us a (sym (a p (omega (arith, e, g.forward))) ∙ t); stays = g.stays }
    over (bad r) g = record { forward = omega (arith, e, g.forward); within = g.within; clean = clear r g.clean; ends = g.ends; holds = λ us a b. let d = g.holds us a b in (d.0, d.1 (sym (a p (omega (arith, e, g.forward))) ∙ t)); stays = g.stays }
    over spent g = tt

-- a token with which one reading goes on, and another without it
pub either_token : {A : Type 0} {P : List Kind → A → ℕ → Type 0} (test : Option Kind → Bool) (k : Kind) {F G : List Kind → Outcome A} {p : ℕ} (q : ℕ) {v w : List Kind} → ((o : Option Kind) → test o ≡ true → o ≡ Some k) → is_finish (Some k) ≡ false → q ≡ suc p → Exact (λ us x j. Is us p k → P us x j) F q v → Exact P G p w → Exact P (λ us. if test (slice_get us p) then F us else G us) p w
either_token {A} {P} test k {F} {G} {p} q {v} {w} is c e f g = by_token (λ us o. if test o then F us else G us) p g.ends (λ o ts h t. over o (test o) refl ts h t)
  where
    over : (o : Option Kind) (b : Bool) → test o ≡ b → (ts : List Kind) → p ≤ length ts → slice_get ts p ≡ o → Justifies P (λ us. if b then F us else G us) ts p (if b then F ts else G ts)
    over o true d ts h t = takes q k e c f ts (t ∙ is o d)
    over o false d ts h t = g.justified ts h

pub either_mark : {A : Type 0} {P : List Kind → A → ℕ → Type 0} (m : List ℕ) {F G : List Kind → Outcome A} {p : ℕ} (q : ℕ) {v w : List Kind} → q ≡ suc p → Exact (λ us x j. Mark us p m → P us x j) F q v → Exact P G p w → Exact P (λ us. if is_mark m (slice_get us p) then F us else G us) p w
either_mark m q e f g = either_token (is_mark m) (mark m) q (mark_is m) refl e f g

pub either_reserved_word : {A : Type 0} {P : List Kind → A → ℕ → Type 0} (m : List ℕ) {F G : List Kind → Outcome A} {p : ℕ} (q : ℕ) {v w : List Kind} → q ≡ suc p → Exact (λ us x j. Reserved us p m → P us x j) F q v → Exact P G p w → Exact P (λ us. if is_keyword m (slice_get us p) then F us else G us) p w
either_reserved_word m q e f g = either_token (is_keyword m) (keyword m) q (reserved_word_is m) refl e f g

-- two readings, by a test on the token that stands there
pub either : {A : Type 0} {P : List Kind → A → ℕ → Type 0} (test : Option Kind → Bool) {F G : List Kind → Outcome A} {p : ℕ} {v w : List Kind} → Exact P F p v → Exact P G p w → Exact P (λ us. if test (slice_get us p) then F us else G us) p v
either {A} {P} test {F} {G} {p} {v} {w} f g = by_token (λ us o. if test o then F us else G us) p f.ends (λ o ts h t. over (test o) ts h)
  where
    over : (b : Bool) (ts : List Kind) → p ≤ length ts → Justifies P (λ us. if b then F us else G us) ts p (if b then F ts else G ts)
    over true ts h = f.justified ts h
    over false ts h = g.justified ts h

-- what ends the phrase after a token ends it with the token
pub after_token : {A : Type 0} (P : List Kind → A → ℕ → Type 0) {p : ℕ} (q : ℕ) (k : Kind) (v : List Kind) → q ≡ suc p → Ends (λ us x j. Is us p k → P us x j) q v → Ends P p (k ∷ v)
after_token {A} P {p} q k v e f us a =
    let d = f us (subst (λ z. At us z v) (sym e) a.1) in (d.0, subst (λ z. P us d.0 z) (let g : q + length v ≡ p + suc (length v) = omega (arith, e) in g) (d.1 a.0))

pub mark_then : {A : Type 0} {P : List Kind → A → ℕ → Type 0} (m : List ℕ) {F : List Kind → Outcome A} {p : ℕ} (q : ℕ) {v : List Kind} → q ≡ suc p → Exact (λ us x j. Mark us p m → P us x j) F q v → Exact P (λ us. marked us m p (F us)) p (mark m ∷ v)
unfolding marked
mark_then {P = P} m {p = p} q {v = v} e f = either_mark m q e f (stops p (mark m ∷ v) (after_token P q (mark m) v e f.ends))

pub reserved_word_then : {A : Type 0} {P : List Kind → A → ℕ → Type 0} (m : List ℕ) {F : List Kind → Outcome A} {p : ℕ} (q : ℕ) {v : List Kind} → q ≡ suc p → Exact (λ us x j. Reserved us p m → P us x j) F q v → Exact P (λ us. reserved us m p (F us)) p (keyword m ∷ v)
unfolding reserved
reserved_word_then {P = P} m {p = p} q {v = v} e f = either_reserved_word m q e f (stops p (keyword m ∷ v) (after_token P q (keyword m) v e f.ends))

-- a name
abbrev pub some_name : Kind
some_name = a_name (codes "x")

pub name_then : {A : Type 0} {P : List Kind → A → ℕ → Type 0} (F : List Kind → Name → Outcome A) {p : ℕ} (q : ℕ) {v : List Kind} → q ≡ suc p → ((n : Name) → Exact (λ us x j. Named us p n → P us x j) (λ us. F us n) q v) → Exact P (λ us. named us p (F us)) p (some_name ∷ v)
unfolding named
name_then {A} {P} F {p} q {v} e f = by_token (λ us o. taken (name_at p o) p (F us)) p close over
  where
    here : (x : List ℕ) → Exact (λ us y j. Is us p (a_name x) → P us y j) (λ us. F us (record { at = p; text = x })) q v
    here x = as_well (λ us y j h t. h (t, refl)) (f (record { at = p; text = x }))

    close : Ends P p (some_name ∷ v)
    close = after_token P q some_name v e (here (codes "x")).ends

    over : (o : Option Kind) (ts : List Kind) → p ≤ length ts → slice_get ts p ≡ o → Justifies P (λ us. taken (name_at p o) p (F us)) ts p (taken (name_at p o) p (F ts))
    over None ts h t = stopped p (some_name ∷ v) close ts h
    over (Some (a_name x)) ts h t = takes q (a_name x) e refl (here x) ts t
    over (Some (keyword x)) ts h t = stopped p (some_name ∷ v) close ts h
    over (Some (plain n)) ts h t = stopped p (some_name ∷ v) close ts h
    over (Some (literal w n)) ts h t = stopped p (some_name ∷ v) close ts h
    over (Some (mark x)) ts h t = stopped p (some_name ∷ v) close ts h
    over (Some finish) ts h t = stopped p (some_name ∷ v) close ts h

-- a plain number
abbrev pub some_number : Kind
some_number = plain 1

pub number_then : {A : Type 0} {P : List Kind → A → ℕ → Type 0} (F : List Kind → ℕ → Outcome A) {p : ℕ} (q : ℕ) {v : List Kind} → q ≡ suc p → ((n : ℕ) → Exact (λ us x j. Is us p (plain n) → P us x j) (λ us. F us n) q v) → Exact P (λ us. numbered us p (F us)) p (some_number ∷ v)
unfolding numbered
number_then {A} {P} F {p} q {v} e f = by_token (λ us o. taken (plain_of o) p (F us)) p close over
  where
    close : Ends P p (some_number ∷ v)
    close = after_token P q some_number v e (f 1).ends

    over : (o : Option Kind) (ts : List Kind) → p ≤ length ts → slice_get ts p ≡ o → Justifies P (λ us. taken (plain_of o) p (F us)) ts p (taken (plain_of o) p (F ts))
    over None ts h t = stopped p (some_number ∷ v) close ts h
    over (Some (a_name x)) ts h t = stopped p (some_number ∷ v) close ts h
    over (Some (keyword x)) ts h t = stopped p (some_number ∷ v) close ts h
    over (Some (plain n)) ts h t = takes q (plain n) e refl (f n) ts t
    over (Some (literal w n)) ts h t = stopped p (some_number ∷ v) close ts h
    over (Some (mark x)) ts h t = stopped p (some_number ∷ v) close ts h
    over (Some finish) ts h t = stopped p (some_number ∷ v) close ts h

-- a phrase, and what follows it
pub phrase_then : {A B : Type 0} {P : List Kind → B → ℕ → Type 0} {Q : List Kind → A → ℕ → Type 0} {F : List Kind → Outcome A} (G : List Kind → A → ℕ → Outcome B) {p : ℕ} {w : List Kind} (v : List Kind) → Exact Q F p w → ((x : A) (j : ℕ) → Exact (λ us y k. Q us x j → P us y k) (λ us. G us x j) j v) → Exact P (λ us. after (F us) (G us)) p (w ++ v)
unfolding after
phrase_then {A} {B} {P} {Q} {F} G {p} {w} v f g = record { justified = λ ts h. over ts (F ts) (f.justified ts h); ends = λ us a. let d = f.ends us (first_at us p w v a) in close us p w d.0 d.1 (second_at us p w v a) }
  where
    -- what follows ends with v
    close : (us : List Kind) (i : ℕ) (u : List Kind) (x : A) → Q us x (i + length u) → At us (i + length u) v → (y : B) × P us y (i + length (u ++ v))
    close us i u x d a =
        let c = (g x (i + length u)).ends us a in (c.0, subst (λ z. P us c.0 z) (let e : (i + length u) + length v ≡ i + length (u ++ v) = omega (arith, length_join u v) in e) (c.1 d))

    first_bad : (ts : List Kind) (r : ℕ) → BadRead Q F ts p r → BadRead P (λ us. after (F us) (G us)) ts p r
    first_bad ts r b = record {
      forward = b.forward;
      within = b.within;
      clean = b.clean;
      ends = b.ends ++ v;
      holds = λ us a c. let d = b.holds us a (first_at us r b.ends v c) in close us r b.ends d.0 d.1 (second_at us r b.ends v c);
      stays = λ us a. ap (λ z. after z (G us)) (b.stays us a);
    }

    both : (ts : List Kind) (j k : ℕ) → Clean ts p j → Clean ts j k → Clean ts p k
    both ts j k a b i c d = elim (cases_lt i j) [ inl e ↦ a i c e | inr e ↦ b i e d ]

    second : (ts : List Kind) (x : A) (j : ℕ) → GoodRead Q F ts p x j → (s : Outcome B) → Justifies (λ us y k. Q us x j → P us y k) (λ us. G us x j) ts j s → Justifies P (λ us. after (F us) (G us)) ts p s
    second ts x j a (good y k) b = record {
      forward = omega (arith, a.forward, b.forward);
      within = b.within;
      clean = both ts j k a.clean b.clean;
      holds = λ us c. b.holds us c (a.holds us (λ i h. c i (omega (arith, b.forward, h))));
      stays = λ us c. ap (λ z. after z (G us)) (a.stays us (λ i h. c i (omega (arith, b.forward, h)))) ∙ b.stays us c;
    }
    second ts x j a (bad r) b = record {
      forward = omega (arith, a.forward, b.forward);
      within = b.within;
      clean = both ts j r a.clean b.clean;
      ends = b.ends;
      holds = λ us c d. let e = b.holds us c d in (e.0, e.1 (a.holds us (λ i h. c i (omega (arith, b.forward, h)))));
      stays = λ us c. ap (λ z. after z (G us)) (a.stays us (λ i h. c i (omega (arith, b.forward, h)))) ∙ b.stays us c;
    }
    second ts x j a spent b = tt

    over : (ts : List Kind) (r : Outcome A) → Justifies Q F ts p r → Justifies P (λ us. after (F us) (G us)) ts p (after r (G ts))
    over ts (good x j) a = second ts x j a (G ts x j) ((g x j).justified ts a.within)
    over ts (bad r) a = first_bad ts r a
    over ts spent a = tt

-- no depth is left
pub no_depth : {A : Type 0} {P : List Kind → A → ℕ → Type 0} (p : ℕ) (w : List Kind) → Ends P p w → Exact P (λ us. spent) p w
no_depth p w f = record { justified = λ ts h. tt; ends = f }

-- ---- lists

-- phrases up to a token that passes a test
pub many_exact : {A : Type 0} {P : List Kind → ℕ → A → ℕ → Type 0} (one : List Kind → ℕ → ℕ → Outcome A) (test : Option Kind → Bool) {w : List Kind} → ((n p : ℕ) → Exact (λ us. P us p) (λ us. one us n p) p w) → (n p : ℕ) → Exact (λ us. Many (P us) p) (λ us. many_from (one us) (λ i. test (slice_get us i)) n p) p []
many_exact {A} {P} one test each zero p = no_depth p [] (done {P = λ us xs k. Many (P us) p xs k} [] p p refl (λ us. no_more)).ends
many_exact {A} {P} one test each (suc n) p = either test (done [] p p refl (λ us. no_more)) (phrase_then _ [] (each n p) (λ x j. phrase_then _ [] (many_exact one test each n j) (λ xs k. done (x ∷ xs) k k refl (λ us ds d. one_more d ds))))

pub some_exact : {A : Type 0} {P : List Kind → ℕ → A → ℕ → Type 0} {Q : List Kind → List A → ℕ → Type 0} (one : List Kind → ℕ → ℕ → Outcome A) (test : Option Kind → Bool) {w : List Kind} → ((n p : ℕ) → Exact (λ us. P us p) (λ us. one us n p) p w) → (n p : ℕ) → ((us : List Kind) (x : A) (xs : List A) (k : ℕ) → Many (P us) p (x ∷ xs) k → Q us (x ∷ xs) k) → Exact Q (λ us. some_from (one us) (λ i. test (slice_get us i)) n p) p (w ++ [])
some_exact one test each n p f = phrase_then _ [] (each n p) (λ x j. phrase_then _ [] (many_exact one test each n j) (λ xs k. done (x ∷ xs) k k refl (λ us ds d. f us x xs k (one_more d ds))))

-- phrases with commas between
pub commas_exact : {A : Type 0} {P : List Kind → ℕ → A → ℕ → Type 0} (one : List Kind → ℕ → ℕ → Outcome A) {w : List Kind} → ((n p : ℕ) → Exact (λ us. P us p) (λ us. one us n p) p w) → (n p : ℕ) → Exact (λ us. Commas us (P us) p) (λ us. commas_from us (one us) n p) p (w ++ [])
commas_exact {A} {P} one {w = w} each zero p = no_depth p (w ++ []) (λ us a. let d = (each zero p).ends us (first_at us p w [] a) in (d.0 ∷ [], last (subst (λ z. P us p d.0 z) (let e : p + length w ≡ p + length (w ++ []) = omega (arith, length_join w []) in e) d.1)))
commas_exact one {w = w} each (suc n) p = phrase_then _ [] (each n p) (λ x j. either_mark (codes ",") (suc j) refl
    (phrase_then _ [] (commas_exact one each n (suc j)) (λ xs k. done (x ∷ xs) k k refl (λ us ds t d. then_comma d t ds)))
    (done (x ∷ []) j j refl (λ us d. last d)))
