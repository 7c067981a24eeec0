-- Token indices but for the first.
use Rattle.std.proofs.Common.{◌≡◌, ℕ, ◌||◌, Bool, true, false, List, [], ◌∷◌, ◌++◌, map, drop, length, Option, Some, None, is_some, refl, sym, ap, ap₂, subst, ◌∙◌, take_all, le_refl}
use Rattle.std.specs.Prelude.{option_map, option_to_list, filter_map, flat_map}
use Rattle.std.specs.List.{cons_option}
use Rattle.std.proofs.lemmas.List.Concat.{flat_map-append}
use Rattle.cocoon_num.specs.Tree.{HostDecl, SwitchDecl, Decl, Refine, Design}
use Rattle.cocoon_types.specs.Design.{as_host, as_switch, all_decls}
use Rattle.cocoon_types.specs.NameRules.{hosts_at}
use Rattle.cocoon_types.specs.Rules.{twice}
use Rattle.cocoon_types.specs.FirstFault.{Fault}
use Rattle.cocoon_types.specs.Noting.{Notes}
use Rattle.cocoon_types.specs.Among.{among, AmongLaws}
use Rattle.name_rules.specs.Among.{any_at, later, host_places, switch_places, block_hosts, block_switches, hosts_twice, switches_twice}

pub later-append : (found : Bool) (xs ys : List ℕ) → later found (xs ++ ys) ≡ later found xs ++ later (found || any_at xs) ys
later-append true xs ys = refl
later-append false [] ys = refl
later-append false (x ∷ xs) ys = refl

any-append : (xs ys : List ℕ) → any_at (xs ++ ys) ≡ any_at xs || any_at ys
any-append [] ys = refl
any-append (x ∷ xs) ys = refl

or-assoc : (a b c : Bool) → (a || b) || c ≡ a || (b || c)
or-assoc true b c = refl
or-assoc false b c = refl

pub any-option : (o : Option ℕ) → is_some o ≡ any_at (option_to_list o)
any-option None = refl
any-option (Some n) = refl

-- one more turn of a loop
pub any-more : (found now now' : Bool) (xs ys zs : List ℕ) → zs ≡ xs ++ ys → now ≡ found || any_at xs → now' ≡ now || any_at ys → now' ≡ found || any_at zs
any-more found now now' xs ys zs e h k = k ∙ ap (λ b. b || any_at ys) h ∙ or-assoc found (any_at xs) (any_at ys) ∙ ap (λ b. found || b) (sym (ap any_at e ∙ any-append xs ys))

pub notes-later : AmongLaws → (found now : Bool) (xs ys zs : List ℕ) (a b c : Option Fault) → zs ≡ xs ++ ys → now ≡ found || any_at xs
    → Notes (among twice (later found xs)) a b → Notes (among twice (later now ys)) b c → Notes (among twice (later found zs)) a c
notes-later laws found now xs ys zs a b c e h m n =
    subst (λ l. Notes (among twice l) a c) (sym (ap (later found) e ∙ later-append found xs ys))
    (laws.append twice (later found xs) (later (found || any_at xs) ys) a b c m (subst (λ t. Notes (among twice (later t ys)) b c) h n))

nothing-yet : (found : Bool) → found ≡ found || false
nothing-yet true = refl
nothing-yet false = refl

pub any-none : (found : Bool) → found ≡ found || any_at []
any-none found = nothing-yet found

later-none : (found : Bool) → [] ≡ later found []
later-none true = refl
later-none false = refl

pub notes-start : (found : Bool) (a : Option Fault) → Notes (among twice []) a a → Notes (among twice (later found [])) a a
notes-start found a h = subst (λ l. Notes (among twice l) a a) (later-none found) h

-- ---- hosts and switches

listed : {A : Type 0} (pick : Decl → Option A) (at : A → ℕ) (ds : List Decl) → map at (filter_map pick ds) ≡ flat_map (λ d. option_to_list (option_map at (pick d))) ds
listed pick at [] = refl
listed {A} pick at (d ∷ ds) = by (pick d) (listed pick at ds)
  where
    by : (o : Option A) → map at (filter_map pick ds) ≡ flat_map (λ d. option_to_list (option_map at (pick d))) ds
        → map at (cons_option o (filter_map pick ds)) ≡ option_to_list (option_map at o) ++ flat_map (λ d. option_to_list (option_map at (pick d))) ds
    by None ih = ih
    by (Some a) ih = ap (λ l. at a ∷ l) ih

hosts-listed : (ds : List Decl) → hosts_at ds ≡ flat_map host_places ds
hosts-listed ds = listed as_host (λ (h : HostDecl). h.at) ds

blocks-listed : (bs : List Refine) → flat_map (λ (b : Refine). hosts_at b.decls) bs ≡ flat_map block_hosts bs
blocks-listed [] = refl
blocks-listed (b ∷ bs) = ap₂ (◌++◌) (hosts-listed b.decls) (blocks-listed bs)

pub hosts-twice : (d : Design) → later false (flat_map host_places d.decls) ++ flat_map block_hosts d.refines ≡ hosts_twice d
hosts-twice d = sym (ap₂ (◌++◌) (ap (drop 1) (hosts-listed d.decls)) (blocks-listed d.refines))

switches-of-blocks : (bs : List Refine) → flat_map switch_places (flat_map (λ (b : Refine). b.decls) bs) ≡ flat_map block_switches bs
switches-of-blocks [] = refl
switches-of-blocks (b ∷ bs) = flat_map-append switch_places b.decls (flat_map (λ (c : Refine). c.decls) bs) ∙ ap (λ l. block_switches b ++ l) (switches-of-blocks bs)

pub switches-twice : (d : Design) → later false (flat_map switch_places d.decls ++ flat_map block_switches d.refines) ≡ switches_twice d
switches-twice d = sym (ap (drop 1) (listed as_switch (λ (s : SwitchDecl). s.at) (all_decls d)
    ∙ ap (λ bs. flat_map switch_places (d.decls ++ flat_map (λ (b : Refine). b.decls) bs)) (take_all (length d.refines) d.refines (le_refl (length d.refines)))
    ∙ flat_map-append switch_places d.decls (flat_map (λ (b : Refine). b.decls) d.refines)
    ∙ ap (λ l. flat_map switch_places d.decls ++ l) (switches-of-blocks d.refines)))
