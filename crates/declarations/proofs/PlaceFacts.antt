-- Declarations at their places: that each stands where its place says, and in which order they are.
use Rattle.std.proofs.Common.{◌≡◌, ℕ, zero, suc, ◌≤◌, ◌<◌, List, [], ◌∷◌, ◌++◌, length, slice_get, slice_index_or, Option, Some, None, refl, sym, ap, ap₂, subst, ◌∙◌, append_assoc, le_refl, le_trans, arith, length-append, take_all}
use Rattle.std.specs.Prelude.{option_map, option_and_then, filter_map, flat_map}
use Rattle.std.specs.List.{cons_option}
use Rattle.std.specs.List.Sorted.{IsNonDecreasingBy}
use Rattle.cocoon_num.specs.Tree.{Decl, Refine, Design}
use Rattle.cocoon_types.specs.Design.{all_decls}
use Rattle.declarations.specs.declared.place.Place.{Place}
use Rattle.declarations.specs.Places.{Placed, level_decls, decl_at, placed_from, placed_blocks, placed, places_by, decls_by}
use Rattle.declarations.specs.Declares.{fetch}

-- ---- lists

pub picked-append : {X Y : Type 0} (h : X → Option Y) (xs ys : List X) → filter_map h (xs ++ ys) ≡ filter_map h xs ++ filter_map h ys
picked-append h [] ys = refl
picked-append {Y = Y} h (x ∷ xs) ys = by (h x) (picked-append h xs ys)
  where
    by : (o : Option Y) → filter_map h (xs ++ ys) ≡ filter_map h xs ++ filter_map h ys → cons_option o (filter_map h (xs ++ ys)) ≡ cons_option o (filter_map h xs) ++ filter_map h ys
    by None ih = ih
    by (Some y) ih = ap (λ r. y ∷ r) ih

middle : {X : Type 0} (before : List X) (x : X) (rest : List X) → slice_get (before ++ x ∷ rest) (length before) ≡ Some x
middle [] x rest = refl
middle (b ∷ before) x rest = middle before x rest

-- ---- each stands at its place

abbrev pub Sound : Design → List Placed → Type 0
Sound d [] = Unit {0}
Sound d (p ∷ ps) = (decl_at d p.0 ≡ Some p.1) × Sound d ps

Sound-append : (d : Design) (ps qs : List Placed) → Sound d ps → Sound d qs → Sound d (ps ++ qs)
Sound-append d [] qs h k = k
Sound-append d (p ∷ ps) qs h k = (h.0, Sound-append d ps qs h.1 k)

sound-from : (d : Design) (level index : ℕ) (before ds : List Decl) → length before ≡ index → level_decls d level ≡ Some (before ++ ds) → Sound d (placed_from level index ds)
sound-from d level index before [] e h = tt
sound-from d level index before (x ∷ ds) e h = (
  ap (option_and_then (λ l. slice_get l index)) h ∙ ap (slice_get (before ++ x ∷ ds)) (sym e) ∙ middle before x ds,
  sound-from d level (suc index) (before ++ x ∷ []) ds (simp length-append (omega arith)) (h ∙ ap Some (sym (append_assoc before (x ∷ []) ds))),
)

sound-blocks : (d : Design) (k : ℕ) (before bs : List Refine) → length before ≡ k → d.refines ≡ before ++ bs → Sound d (placed_blocks (suc k) bs)
sound-blocks d k before [] e h = tt
sound-blocks d k before (b ∷ bs) e h =
    Sound-append d (placed_from (suc k) 0 b.decls) (placed_blocks (suc (suc k)) bs)
    (sound-from d (suc k) 0 [] b.decls refl (ap (option_map (λ (r : Refine). r.decls)) (ap (λ l. slice_get l k) h ∙ ap (slice_get (before ++ b ∷ bs)) (sym e) ∙ middle before b bs)))
    (sound-blocks d (suc k) (before ++ b ∷ []) bs (simp length-append (omega arith)) (h ∙ sym (append_assoc before (b ∷ []) bs)))

pub sound-placed : (d : Design) → Sound d (placed d)
sound-placed d = Sound-append d (placed_from 0 0 d.decls) (placed_blocks 1 d.refines) (sound-from d 0 0 [] d.decls refl refl) (sound-blocks d 0 [] d.refines refl refl)

-- the place with a number holds the declaration with that number
pub fetch-at : {A : Type 0} (pick : Decl → Option A) (d : Design) (ps : List Placed) → Sound d ps → (n : ℕ)
    → option_and_then (fetch pick d) (slice_get (places_by pick ps) n) ≡ slice_get (decls_by pick ps) n
fetch-at pick d [] h n = refl
fetch-at {A} pick d (p ∷ ps) h n = by (fetch-at pick d ps h.1) (pick p.1) refl n
  where
    by : ((m : ℕ) → option_and_then (fetch pick d) (slice_get (places_by pick ps) m) ≡ slice_get (decls_by pick ps) m) → (o : Option A) → pick p.1 ≡ o → (n : ℕ)
        → option_and_then (fetch pick d) (slice_get (cons_option (option_map (λ _. p.0) o) (places_by pick ps)) n) ≡ slice_get (cons_option o (decls_by pick ps)) n
    by ih None e n = ih n
    by ih (Some a) e zero = ap (option_and_then pick) h.0 ∙ e
    by ih (Some a) e (suc n) = ih n

-- ---- what they declare

decls-from : {A : Type 0} (pick : Decl → Option A) (level index : ℕ) (ds : List Decl) → decls_by pick (placed_from level index ds) ≡ filter_map pick ds
decls-from pick level index [] = refl
decls-from pick level index (d ∷ ds) = ap (cons_option (pick d)) (decls-from pick level (suc index) ds)

decls-blocks : {A : Type 0} (pick : Decl → Option A) (level : ℕ) (bs : List Refine) → decls_by pick (placed_blocks level bs) ≡ filter_map pick (flat_map (λ (b : Refine). b.decls) bs)
decls-blocks pick level [] = refl
decls-blocks pick level (b ∷ bs) =
    picked-append (λ (p : Placed). pick p.1) (placed_from level 0 b.decls) (placed_blocks (suc level) bs)
    ∙ ap₂ (◌++◌) (decls-from pick level 0 b.decls) (decls-blocks pick (suc level) bs)
    ∙ sym (picked-append pick b.decls (flat_map (λ (r : Refine). r.decls) bs))

pub decls-placed : {A : Type 0} (pick : Decl → Option A) (d : Design) → decls_by pick (placed d) ≡ filter_map pick (all_decls d)
decls-placed pick d =
    picked-append (λ (p : Placed). pick p.1) (placed_from 0 0 d.decls) (placed_blocks 1 d.refines)
    ∙ ap₂ (◌++◌) (decls-from pick 0 0 d.decls) (decls-blocks pick 1 d.refines)
    ∙ sym (picked-append pick d.decls (flat_map (λ (r : Refine). r.decls) d.refines))
    ∙ ap (λ bs. filter_map pick (d.decls ++ flat_map (λ (r : Refine). r.decls) bs)) (sym (take_all (length d.refines) d.refines (le_refl (length d.refines))))

-- ---- their order

-- levels that do not fall, from one to another
abbrev pub Rising : (low high : ℕ) → List Place → Type 0
Rising low high [] = low ≤ high
Rising low high (p ∷ ps) = (low ≤ p.level) × Rising p.level high ps

Rising-lower : (low next high : ℕ) (ps : List Place) → low ≤ next → Rising next high ps → Rising low high ps
Rising-lower low next high [] h r = le_trans h r
Rising-lower low next high (p ∷ ps) h r = (le_trans h r.0, r.1)

Rising-append : (low next high : ℕ) (ps qs : List Place) → Rising low next ps → Rising next high qs → Rising low high (ps ++ qs)
Rising-append low next high [] qs h k = Rising-lower low next high qs h k
Rising-append low next high (p ∷ ps) qs h k = (h.0, Rising-append p.level next high ps qs h.1 k)

rising-from : {A : Type 0} (pick : Decl → Option A) (level index : ℕ) (ds : List Decl) → Rising level level (places_by pick (placed_from level index ds))
rising-from pick level index [] = le_refl level
rising-from {A} pick level index (d ∷ ds) = by (pick d) (rising-from pick level (suc index) ds)
  where
    by : (o : Option A) → Rising level level (places_by pick (placed_from level (suc index) ds))
        → Rising level level (cons_option (option_map (λ _. record { level = level; index = index }) o) (places_by pick (placed_from level (suc index) ds)))
    by None h = h
    by (Some a) h = (le_refl level, h)

rising-blocks : {A : Type 0} (pick : Decl → Option A) (level : ℕ) (bs : List Refine) → (high : ℕ) × Rising level high (places_by pick (placed_blocks level bs))
rising-blocks pick level [] = (level, le_refl level)
rising-blocks pick level (b ∷ bs) =
    let rest = rising-blocks pick (suc level) bs in (
      rest.0,
      subst (Rising level rest.0) (sym (picked-append (λ (p : Placed). option_map (λ _. p.0) (pick p.1)) (placed_from level 0 b.decls) (placed_blocks (suc level) bs)))
          (Rising-append level level rest.0 (places_by pick (placed_from level 0 b.decls)) (places_by pick (placed_blocks (suc level) bs)) (rising-from pick level 0 b.decls) (Rising-lower level (suc level) rest.0 _ (omega arith) rest.1)),
    )

rising-placed : {A : Type 0} (pick : Decl → Option A) (d : Design) → (high : ℕ) × Rising 0 high (places_by pick (placed d))
rising-placed pick d =
    let rest = rising-blocks pick 1 d.refines in (
      rest.0,
      subst (Rising 0 rest.0) (sym (picked-append (λ (p : Placed). option_map (λ _. p.0) (pick p.1)) (placed_from 0 0 d.decls) (placed_blocks 1 d.refines)))
          (Rising-append 0 0 rest.0 (places_by pick (placed_from 0 0 d.decls)) (places_by pick (placed_blocks 1 d.refines)) (rising-from pick 0 0 d.decls) (Rising-lower 0 1 rest.0 _ (omega arith) rest.1)),
    )

above : (low high : ℕ) (ps : List Place) → Rising low high ps → (j : ℕ) (e : Place) → j < length ps → low ≤ (slice_index_or ps j e).level
above low high [] r j e h = absurd (omega arith)
above low high (p ∷ ps) r zero e h = r.0
above low high (p ∷ ps) r (suc j) e h = le_trans r.0 (above p.level high ps r.1 j e (omega arith))

non-decreasing : (low high : ℕ) (ps : List Place) → Rising low high ps → IsNonDecreasingBy (λ (p : Place). p.level) ps
non-decreasing low high [] r i j e h k = absurd (omega arith)
non-decreasing low high (p ∷ ps) r zero zero e h k = le_refl p.level
non-decreasing low high (p ∷ ps) r zero (suc j) e h k = above p.level high ps r.1 j e (omega arith)
non-decreasing low high (p ∷ ps) r (suc i) zero e h k = absurd (omega arith)
non-decreasing low high (p ∷ ps) r (suc i) (suc j) e h k = non-decreasing p.level high ps r.1 i j e (omega arith) (omega arith)

-- the levels of the places do not fall
pub levels-rise : {A : Type 0} (pick : Decl → Option A) (d : Design) → IsNonDecreasingBy (λ (p : Place). p.level) (places_by pick (placed d))
levels-rise pick d = let r = rising-placed pick d in non-decreasing 0 r.0 (places_by pick (placed d)) r.1
