-- The terms of fields with one of them set.
use Rattle.std.proofs.Common.{◌≡◌, ℕ, zero, suc, List, [], ◌∷◌, ◌++◌, length, map, take, drop, cond, Bool, true, false, Some, if◌then◌else◌, option_map, option_and_then, refl, sym, ap, subst, ◌∙◌}
use Rattle.std.specs.List.{AllZip}
use Rattle.cocoon_num.specs.Names.{same_name, named}
use Rattle.cocoon_num.specs.Tree.{Param, HeaderDecl}
use Rattle.cocoon_resolve.specs.Readers.{all_widths}
use Rattle.cocoon_types.specs.Design.{field_width, widths_of, write_field, write_in}
use Rattle.bv_terms.specs.TermTrees.{Term}
use Rattle.role_values.specs.Flat.{packet_of}
use Rattle.sound_types.proofs.Variables.{width_among}
use Rattle.obligation_laws.specs.States.{set_in, set_term}

-- ---- what holds of all fields

set_by_name : (R : ℕ → Term → Type 0) (p : Param) (ps : List Param) (ws : List ℕ) (t u : Term) (ts : List Term) (f : List ℕ) (w : ℕ) → R p.width t → AllZip R (widths_of ps ++ ws) ts → R w u
    → (width_among ps f ≡ Some w → AllZip R (widths_of ps ++ ws) (set_in ps ts f u)) → (same : Bool)
    → option_map (λ (q : Param). q.width) (cond same (Some p) (named (λ (q : Param). q.name) f ps)) ≡ Some w → AllZip R (widths_of (p ∷ ps) ++ ws) (if same then u ∷ ts else t ∷ set_in ps ts f u)
set_by_name R p ps ws t u ts f w h more k later true e = let is : p.width ≡ w = cc in (subst (λ v. R v u) (sym is) k, more)
set_by_name R p ps ws t u ts f w h more k later false e = (h, later e)

set_in_fits : (R : ℕ → Term → Type 0) (ps : List Param) (ws : List ℕ) (ts : List Term) → AllZip R (widths_of ps ++ ws) ts → (f : List ℕ) (w : ℕ) (u : Term) → R w u → width_among ps f ≡ Some w → AllZip R (widths_of ps ++ ws) (set_in ps ts f u)
set_in_fits R [] ws ts h f w u k e = absurd (cc)
set_in_fits R (p ∷ ps) ws [] h f w u k e = absurd h
set_in_fits R (p ∷ ps) ws (t ∷ ts) h f w u k e = set_by_name R p ps ws t u ts f w h.0 h.1 k (set_in_fits R ps ws ts h.1 f w u k) (same_name f p.name.text) e

after_header : (R : ℕ → Term → Type 0) (ps : List Param) (ws : List ℕ) (ts : List Term) → AllZip R (widths_of ps ++ ws) ts → AllZip R ws (drop (length ps) ts)
after_header R [] ws ts h = h
after_header R (p ∷ ps) ws [] h = absurd h
after_header R (p ∷ ps) ws (t ∷ ts) h = after_header R ps ws ts h.1

join_header : (R : ℕ → Term → Type 0) (ps : List Param) (ws : List ℕ) (ts us : List Term) → AllZip R (widths_of ps ++ ws) ts → AllZip R ws us → AllZip R (widths_of ps ++ ws) (take (length ps) ts ++ us)
join_header R [] ws ts us h k = k
join_header R (p ∷ ps) ws [] us h k = absurd h
join_header R (p ∷ ps) ws (t ∷ ts) us h k = (h.0, join_header R ps ws ts us h.1 k)

-- what holds of all fields and of a term of a field's width holds where the field is set to the term
pub set_fits : (R : ℕ → Term → Type 0) (hs : List HeaderDecl) (ts : List Term) → AllZip R (all_widths hs) ts → (h f : List ℕ) (w : ℕ) (u : Term) → R w u → field_width hs h f ≡ Some w → AllZip R (all_widths hs) (set_term hs ts h f u)
set_fits R [] ts z h f w u k e = absurd (cc)
set_fits R (d ∷ hs) ts z h f w u k e = by (set_fits R hs (drop (length d.fields) ts) (after_header R d.fields (all_widths hs) ts z) h f w u k) (same_name h d.name.text) e
  where
    by : (field_width hs h f ≡ Some w → AllZip R (all_widths hs) (set_term hs (drop (length d.fields) ts) h f u)) → (b : Bool)
        → option_and_then (λ (c : HeaderDecl). width_among c.fields f) (cond b (Some d) (named (λ (c : HeaderDecl). c.name) h hs)) ≡ Some w
        → AllZip R (widths_of d.fields ++ all_widths hs) (if b then set_in d.fields ts f u else take (length d.fields) ts ++ set_term hs (drop (length d.fields) ts) h f u)
    by later true i = set_in_fits R d.fields (all_widths hs) ts z f w u k i
    by later false i = join_header R d.fields (all_widths hs) ts (set_term hs (drop (length d.fields) ts) h f u) z (later i)

-- ---- the packet

module _ (num : Term → ℕ) where
  abbrev all : List Term → List ℕ
  all ts = map num ts

  set_taken : (ps : List Param) (ts : List Term) (f : List ℕ) (u : Term) → take (length ps) (all (set_in ps ts f u)) ≡ write_in ps (take (length ps) (all ts)) f (num u)
  set_taken [] ts f u = refl
  set_taken (p ∷ ps) [] f u = refl
  set_taken (p ∷ ps) (t ∷ ts) f u = by (same_name f p.name.text) (set_taken ps ts f u)
    where
      by : (b : Bool) → take (length ps) (all (set_in ps ts f u)) ≡ write_in ps (take (length ps) (all ts)) f (num u)
          → take (suc (length ps)) (all (if b then u ∷ ts else t ∷ set_in ps ts f u)) ≡ (if b then num u ∷ take (length ps) (all ts) else num t ∷ write_in ps (take (length ps) (all ts)) f (num u))
      by true h = refl
      by false h = ap (λ ns. num t ∷ ns) h

  set_dropped : (ps : List Param) (ts : List Term) (f : List ℕ) (u : Term) → drop (length ps) (all (set_in ps ts f u)) ≡ drop (length ps) (all ts)
  set_dropped [] ts f u = refl
  set_dropped (p ∷ ps) [] f u = refl
  set_dropped (p ∷ ps) (t ∷ ts) f u = by (same_name f p.name.text) (set_dropped ps ts f u)
    where
      by : (b : Bool) → drop (length ps) (all (set_in ps ts f u)) ≡ drop (length ps) (all ts) → drop (suc (length ps)) (all (if b then u ∷ ts else t ∷ set_in ps ts f u)) ≡ drop (length ps) (all ts)
      by true h = refl
      by false h = h

  kept_taken : (R : ℕ → Term → Type 0) (ps : List Param) (ws : List ℕ) (ts us : List Term) → AllZip R (widths_of ps ++ ws) ts → take (length ps) (all (take (length ps) ts ++ us)) ≡ take (length ps) (all ts)
  kept_taken R [] ws ts us h = refl
  kept_taken R (p ∷ ps) ws [] us h = absurd h
  kept_taken R (p ∷ ps) ws (t ∷ ts) us h = ap (λ ns. num t ∷ ns) (kept_taken R ps ws ts us h.1)

  kept_dropped : (R : ℕ → Term → Type 0) (ps : List Param) (ws : List ℕ) (ts us : List Term) → AllZip R (widths_of ps ++ ws) ts → drop (length ps) (all (take (length ps) ts ++ us)) ≡ all us
  kept_dropped R [] ws ts us h = refl
  kept_dropped R (p ∷ ps) ws [] us h = absurd h
  kept_dropped R (p ∷ ps) ws (t ∷ ts) us h = kept_dropped R ps ws ts us h.1

  all_dropped : (k : ℕ) (ts : List Term) → drop k (all ts) ≡ all (drop k ts)
  all_dropped zero ts = refl
  all_dropped (suc k) [] = refl
  all_dropped (suc k) (t ∷ ts) = all_dropped k ts

  -- the packet is the one with the field set to the term's number
  pub set_packet : (R : ℕ → Term → Type 0) (hs : List HeaderDecl) (ts : List Term) → AllZip R (all_widths hs) ts → (h f : List ℕ) (u : Term)
      → packet_of hs (map num (set_term hs ts h f u)) ≡ write_field hs (packet_of hs (map num ts)) h f (num u)
  set_packet R [] ts z h f u = refl
  set_packet R (d ∷ hs) ts z h f u = by (set_packet R hs (drop (length d.fields) ts) (after_header R d.fields (all_widths hs) ts z) h f u) (same_name h d.name.text)
    where
      by : packet_of hs (all (set_term hs (drop (length d.fields) ts) h f u)) ≡ write_field hs (packet_of hs (all (drop (length d.fields) ts))) h f (num u)
          → (b : Bool) → packet_of (d ∷ hs) (all (if b then set_in d.fields ts f u else take (length d.fields) ts ++ set_term hs (drop (length d.fields) ts) h f u))
          ≡ (if b then write_in d.fields (take (length d.fields) (all ts)) f (num u) ∷ packet_of hs (drop (length d.fields) (all ts))
          else take (length d.fields) (all ts) ∷ write_field hs (packet_of hs (drop (length d.fields) (all ts))) h f (num u))
      by later true = λ i. set_taken d.fields ts f u i ∷ packet_of hs (set_dropped d.fields ts f u i)
      by later false =
          (λ i. kept_taken R d.fields (all_widths hs) ts (set_term hs (drop (length d.fields) ts) h f u) z i ∷ packet_of hs (kept_dropped R d.fields (all_widths hs) ts (set_term hs (drop (length d.fields) ts) h f u) z i))
          ∙ ap (λ q. take (length d.fields) (all ts) ∷ q) (later ∙ ap (λ ns. write_field hs (packet_of hs ns) h f (num u)) (sym (all_dropped (length d.fields) ts)))
