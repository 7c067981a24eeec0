-- A walk over terms that were seen, and what it has seen then.
use Rattle.std.proofs.Common.{◌≡◌, true, false, List, [], ◌∷◌, ◌++◌, refl, ap, sym, ◌∙◌, subst, inl, inr, append_assoc}
use Rattle.std.proofs.lemmas.List.{append-nil}
use Rattle.std.proofs.lemmas.List.Folds.{list_any-append}
use Rattle.std.proofs.lemmas.Bool.{cases_Bool, cond-true, cond-false, or_left, or_right}
use Rattle.bv_terms.specs.TermTrees.{Term, Args, constant, input, apply, not_, binary, slice, pick, no_args, arg}
use Rattle.bv_terms.specs.Walks.{same_term, is_among, leave, walk, walk_args}
use Rattle.bv_terms.proofs.SameTerms.{same-itself}
use Rattle.bv_terms.specs.Seen.{Seen, ArgsSeen}

-- ---- nothing is numbered in what was seen

pub leave-seen : (t : Term) (seen : List Term) → is_among seen t ≡ true → leave t seen ≡ seen
leave-seen t seen h = cond-true (is_among seen t) seen (seen ++ t ∷ []) h

mutual
  pub walk-seen : (t : Term) (seen : List Term) → Seen seen t → walk t seen ≡ seen
  walk-seen (constant w n) seen h = leave-seen (constant w n) seen h
  walk-seen (input i w) seen h = leave-seen (input i w) seen h
  walk-seen (apply f ts w) seen h = ap (leave (apply f ts w)) (walk-args-seen ts seen h.0) ∙ leave-seen (apply f ts w) seen h.1
  walk-seen (not_ a) seen h = ap (leave (not_ a)) (walk-seen a seen h.0) ∙ leave-seen (not_ a) seen h.1
  walk-seen (binary o a b) seen h =
      ap (λ s. leave (binary o a b) (walk b s)) (walk-seen a seen h.0) ∙ ap (leave (binary o a b)) (walk-seen b seen h.1) ∙ leave-seen (binary o a b) seen h.2
  walk-seen (slice a high low) seen h = ap (leave (slice a high low)) (walk-seen a seen h.0) ∙ leave-seen (slice a high low) seen h.1
  walk-seen (pick c a b) seen h =
      ap (λ s. leave (pick c a b) (walk b (walk a s))) (walk-seen c seen h.0) ∙ ap (λ s. leave (pick c a b) (walk b s)) (walk-seen a seen h.1)
      ∙ ap (leave (pick c a b)) (walk-seen b seen h.2) ∙ leave-seen (pick c a b) seen h.3

  pub walk-args-seen : (ts : Args) (seen : List Term) → ArgsSeen seen ts → walk_args ts seen ≡ seen
  walk-args-seen no_args seen h = refl
  walk-args-seen (arg t ts) seen h = ap (walk_args ts) (walk-seen t seen h.0) ∙ walk-args-seen ts seen h.1

-- ---- what was seen stays

pub among-more : (ts us : List Term) (t : Term) → is_among ts t ≡ true → is_among (ts ++ us) t ≡ true
among-more ts us t h = list_any-append (λ (u : Term). same_term u t) ts us ∙ or_left (is_among ts t) (is_among us t) h

pub among-last : (seen : List Term) (t : Term) → is_among (seen ++ t ∷ []) t ≡ true
among-last seen t = list_any-append (λ (u : Term). same_term u t) seen (t ∷ []) ∙ or_right (is_among seen t) (is_among (t ∷ []) t) (or_left (same_term t t) false (same-itself t))

mutual
  seen-more : (ts us : List Term) (t : Term) → Seen ts t → Seen (ts ++ us) t
  seen-more ts us (constant w n) h = among-more ts us (constant w n) h
  seen-more ts us (input i w) h = among-more ts us (input i w) h
  seen-more ts us (apply f args w) h = (args-seen-more ts us args h.0, among-more ts us (apply f args w) h.1)
  seen-more ts us (not_ a) h = (seen-more ts us a h.0, among-more ts us (not_ a) h.1)
  seen-more ts us (binary op a b) h = (seen-more ts us a h.0, seen-more ts us b h.1, among-more ts us (binary op a b) h.2)
  seen-more ts us (slice a i j) h = (seen-more ts us a h.0, among-more ts us (slice a i j) h.1)
  seen-more ts us (pick c a b) h = (seen-more ts us c h.0, seen-more ts us a h.1, seen-more ts us b h.2, among-more ts us (pick c a b) h.3)

  args-seen-more : (ts us : List Term) (xs : Args) → ArgsSeen ts xs → ArgsSeen (ts ++ us) xs
  args-seen-more ts us no_args h = tt
  args-seen-more ts us (arg x xs) h = (seen-more ts us x h.0, args-seen-more ts us xs h.1)

-- ---- a walk puts terms at the end

abbrev pub Grown : List Term → List Term → Type 0
Grown old new = (more : List Term) × (new ≡ old ++ more)

same-grown : (ts : List Term) → Grown ts ts
same-grown ts = ([], sym (append-nil ts))

then-grown : (a b c : List Term) → Grown a b → Grown b c → Grown a c
then-grown a b c g h = (g.0 ++ h.0, h.1 ∙ ap (λ s. s ++ h.0) g.1 ∙ append_assoc a g.0 h.0)

pub leave-grown : (t : Term) (seen : List Term) → Grown seen (leave t seen)
leave-grown t seen = elim (cases_Bool (is_among seen t)) [
  | inl b ↦ ([], leave-seen t seen b ∙ sym (append-nil seen))
  | inr b ↦ (t ∷ [], cond-false (is_among seen t) seen (seen ++ t ∷ []) b)
]

mutual
  pub walk-grown : (t : Term) (seen : List Term) → Grown seen (walk t seen)
  walk-grown (constant w n) seen = leave-grown (constant w n) seen
  walk-grown (input i w) seen = leave-grown (input i w) seen
  walk-grown (apply f args w) seen = then-grown seen (walk_args args seen) (walk (apply f args w) seen) (walk-args-grown args seen) (leave-grown (apply f args w) (walk_args args seen))
  walk-grown (not_ a) seen = then-grown seen (walk a seen) (walk (not_ a) seen) (walk-grown a seen) (leave-grown (not_ a) (walk a seen))
  walk-grown (binary op a b) seen =
      let two = then-grown seen (walk a seen) (walk b (walk a seen)) (walk-grown a seen) (walk-grown b (walk a seen)) in
      then-grown seen (walk b (walk a seen)) (walk (binary op a b) seen) two (leave-grown (binary op a b) (walk b (walk a seen)))
  walk-grown (slice a i j) seen = then-grown seen (walk a seen) (walk (slice a i j) seen) (walk-grown a seen) (leave-grown (slice a i j) (walk a seen))
  walk-grown (pick c a b) seen =
      let one = walk c seen in
      let two = walk a one in
      let three = walk b two in
      let first = then-grown seen one two (walk-grown c seen) (walk-grown a one) in
      then-grown seen three (walk (pick c a b) seen) (then-grown seen two three first (walk-grown b two)) (leave-grown (pick c a b) three)

  walk-args-grown : (ts : Args) (seen : List Term) → Grown seen (walk_args ts seen)
  walk-args-grown no_args seen = same-grown seen
  walk-args-grown (arg t ts) seen = then-grown seen (walk t seen) (walk_args ts (walk t seen)) (walk-grown t seen) (walk-args-grown ts (walk t seen))

pub seen-grown : (old new : List Term) (t : Term) → Grown old new → Seen old t → Seen new t
seen-grown old new t g h = subst (λ s. Seen s t) (sym g.1) (seen-more old g.0 t h)

args-seen-grown : (old new : List Term) (ts : Args) → Grown old new → ArgsSeen old ts → ArgsSeen new ts
args-seen-grown old new ts g h = subst (λ s. ArgsSeen s ts) (sym g.1) (args-seen-more old g.0 ts h)

-- ---- after a walk over a term it was seen

pub leave-among : (t : Term) (seen : List Term) → is_among (leave t seen) t ≡ true
leave-among t seen = elim (cases_Bool (is_among seen t)) [
  | inl b ↦ ap (λ s. is_among s t) (leave-seen t seen b) ∙ b
  | inr b ↦ ap (λ s. is_among s t) (cond-false (is_among seen t) seen (seen ++ t ∷ []) b) ∙ among-last seen t
]

mutual
  pub walk-sees : (t : Term) (seen : List Term) → Seen (walk t seen) t
  walk-sees (constant w n) seen = leave-among (constant w n) seen
  walk-sees (input i w) seen = leave-among (input i w) seen
  walk-sees (apply f args w) seen = (
    args-seen-grown (walk_args args seen) (walk (apply f args w) seen) args (leave-grown (apply f args w) (walk_args args seen)) (walk-args-sees args seen),
    leave-among (apply f args w) (walk_args args seen),
  )
  walk-sees (not_ a) seen = (seen-grown (walk a seen) (walk (not_ a) seen) a (leave-grown (not_ a) (walk a seen)) (walk-sees a seen), leave-among (not_ a) (walk a seen))
  walk-sees (binary op a b) seen =
      let one = walk a seen in
      let two = walk b one in
      let last = leave-grown (binary op a b) two in (
        seen-grown two (walk (binary op a b) seen) a last (seen-grown one two a (walk-grown b one) (walk-sees a seen)),
        seen-grown two (walk (binary op a b) seen) b last (walk-sees b one),
        leave-among (binary op a b) two,
      )
  walk-sees (slice a i j) seen =
      (seen-grown (walk a seen) (walk (slice a i j) seen) a (leave-grown (slice a i j) (walk a seen)) (walk-sees a seen), leave-among (slice a i j) (walk a seen))
  walk-sees (pick c a b) seen =
      let one = walk c seen in
      let two = walk a one in
      let three = walk b two in
      let last = leave-grown (pick c a b) three in (
        seen-grown three (walk (pick c a b) seen) c last (seen-grown two three c (walk-grown b two) (seen-grown one two c (walk-grown a one) (walk-sees c seen))),
        seen-grown three (walk (pick c a b) seen) a last (seen-grown two three a (walk-grown b two) (walk-sees a one)),
        seen-grown three (walk (pick c a b) seen) b last (walk-sees b two),
        leave-among (pick c a b) three,
      )

  walk-args-sees : (ts : Args) (seen : List Term) → ArgsSeen (walk_args ts seen) ts
  walk-args-sees no_args seen = tt
  walk-args-sees (arg t ts) seen = (seen-grown (walk t seen) (walk_args ts (walk t seen)) t (walk-args-grown ts (walk t seen)) (walk-sees t seen), walk-args-sees ts (walk t seen))
