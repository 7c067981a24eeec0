-- Inputs at which the runs of a tree begin as a run does.
use Rattle.std.proofs.Common.{◌≡◌, ℕ, suc, ◌+◌, ◌<◌, ◌^◌, List, [], ◌∷◌, ◌++◌, length, take, drop, map, true, false, Option, Some, None, option_and_then, refl, sym, ap, subst, ◌∙◌}
use Rattle.cocoon_num.specs.PacketForms.{FieldsFit, PacketFits}
use Rattle.cocoon_num.specs.Packets.{Packet}
use Rattle.cocoon_num.specs.Tree.{HeaderDecl, Param, Role}
use Rattle.cocoon_num.specs.Values.{Value, number, truth}
use Rattle.cocoon_resolve.specs.Readers.{all_widths}
use Rattle.cocoon_types.specs.Design.{widths_of}
use Rattle.cocoon_types.specs.Runs.{Loc, World}
use Rattle.cocoon_types.specs.Taken.{guard_at}
use Rattle.cocoon_types.specs.Val.{bind, value}
use Rattle.refinement.specs.Ways.{Arrival, body_by, go_by, on_true}
use Rattle.refinement.proofs.Fitting.{bound_fits}
use Rattle.bv_terms.specs.TermValues.{Inputs}
use Rattle.role_values.specs.Flat.{packet_of}
use Rattle.obligation_laws.specs.Meant.{AllFit, given}
use Rattle.obligation_laws.specs.States.{NewInput, inputs_from}
use Rattle.obligation_laws.proofs.Numbering.{Fill, filled_fit, numbered_from, put, put_fit, put_given, put_kept}
use Rattle.obligation_laws.proofs.Leading.{some_there}

-- ---- packets as lists of numbers

abbrev pub flat : Packet → List ℕ
flat [] = []
flat (ns ∷ packet) = ns ++ flat packet

taken_front : (ps : List Param) (ns ms : List ℕ) → FieldsFit (widths_of ps) ns → take (length ps) (ns ++ ms) ≡ ns
taken_front [] [] ms h = refl
taken_front [] (n ∷ ns) ms h = absurd h
taken_front (p ∷ ps) [] ms h = absurd h
taken_front (p ∷ ps) (n ∷ ns) ms h = ap (λ xs. n ∷ xs) (taken_front ps ns ms h.1)

dropped_front : (ps : List Param) (ns ms : List ℕ) → FieldsFit (widths_of ps) ns → drop (length ps) (ns ++ ms) ≡ ms
dropped_front [] [] ms h = refl
dropped_front [] (n ∷ ns) ms h = absurd h
dropped_front (p ∷ ps) [] ms h = absurd h
dropped_front (p ∷ ps) (n ∷ ns) ms h = dropped_front ps ns ms h.1

pub flat_packet : (hs : List HeaderDecl) (packet : Packet) → PacketFits (map (λ (h : HeaderDecl). widths_of h.fields) hs) packet → packet_of hs (flat packet) ≡ packet
flat_packet [] [] h = refl
flat_packet [] (ns ∷ packet) h = absurd h
flat_packet (d ∷ hs) [] h = absurd h
flat_packet (d ∷ hs) (ns ∷ packet) h =
    λ k. taken_front d.fields ns (flat packet) h.0 k ∷ (ap (packet_of hs) (dropped_front d.fields ns (flat packet) h.0) ∙ flat_packet hs packet h.1) k

-- ---- numbers that fill inputs

fill_from : (first : ℕ) (ws ns : List ℕ) → FieldsFit ws ns → Fill (inputs_from first ws) ns
fill_from first [] [] h = tt
fill_from first [] (n ∷ ns) h = absurd h
fill_from first (w ∷ ws) [] h = absurd h
fill_from first (w ∷ ws) (n ∷ ns) h = (h.0, fill_from (suc first) ws ns h.1)

fields_join : (vs ws ms ns : List ℕ) → FieldsFit vs ms → FieldsFit ws ns → FieldsFit (vs ++ ws) (ms ++ ns)
fields_join [] ws [] ns h k = k
fields_join [] ws (m ∷ ms) ns h k = absurd h
fields_join (v ∷ vs) ws [] ns h k = absurd h
fields_join (v ∷ vs) ws (m ∷ ms) ns h k = (h.0, fields_join vs ws ms ns h.1 k)

pub flat_fits : (hs : List HeaderDecl) (packet : Packet) → PacketFits (map (λ (h : HeaderDecl). widths_of h.fields) hs) packet → FieldsFit (all_widths hs) (flat packet)
flat_fits [] [] h = tt
flat_fits [] (ns ∷ packet) h = absurd h
flat_fits (d ∷ hs) [] h = absurd h
flat_fits (d ∷ hs) (ns ∷ packet) h = fields_join (widths_of d.fields) (all_widths hs) ns (flat packet) h.0 (flat_fits hs packet h.1)

-- inputs that are given these numbers
pub record Started (args fields : List NewInput) (ms ns : List ℕ) : Type 0 where
  pub inputs : Inputs
  pub args_are : given inputs args ≡ ms
  pub fields_are : given inputs fields ≡ ns
  pub args_fit : AllFit inputs args
  pub fields_fit : AllFit inputs fields

pub started : (first : ℕ) (vs ws ms ns : List ℕ) → FieldsFit vs ms → FieldsFit ws ns → Started (inputs_from first vs) (inputs_from (first + length (inputs_from first vs)) ws) ms ns
started first vs ws ms ns h k =
    let args = inputs_from first vs in
    let mid = first + length args in
    let fields = inputs_from mid ws in
    let one : Inputs = put args ms (λ i. 0) in
    let two : Inputs = put fields ns one in
    let a = numbered_from first vs in
    let f = numbered_from mid ws in
    let given_one : given one args ≡ ms = put_given (λ i. 0) first mid args ms a (fill_from first vs ms h) in
    let given_two : given two fields ≡ ns = put_given one mid (mid + length fields) fields ns f (fill_from mid ws ns k) in
    record {
      inputs = two;
      args_are = put_kept one first mid (mid + length fields) args fields ns a f ∙ given_one;
      fields_are = given_two;
      args_fit = put_fit one first mid (mid + length fields) args fields ns a f (filled_fit one args (subst (Fill args) (sym given_one) (fill_from first vs ms h)));
      fields_fit = filled_fit two fields (subst (Fill fields) (sym given_two) (fill_from mid ws ns k));
    }

tail_is : (m n : ℕ) (ms ns : List ℕ) → ◌≡◌ {A = List ℕ} (m ∷ ms) (n ∷ ns) → ms ≡ ns
tail_is m n ms ns h = cc

head_is : (m n : ℕ) (ms ns : List ℕ) → ◌≡◌ {A = List ℕ} (m ∷ ms) (n ∷ ns) → m ≡ n
head_is m n ms ns h = cc

-- inputs with the same numbers fit alike
pub same_fit : (a b : Inputs) (is : List NewInput) → given a is ≡ given b is → AllFit b is → AllFit a is
same_fit a b [] e h = tt
same_fit a b (i ∷ is) e h = (
  subst (λ n. n < 2 ^ i.width) (sym (head_is (a i.number) (b i.number) (given a is) (given b is) e)) h.0,
  same_fit a b is (tail_is (a i.number) (b i.number) (given a is) (given b is) e) h.1,
)

-- ---- where a body runs

went : {A : Type 0} (v : Option Value) (x : Option A) (y : A) → on_true v x ≡ Some y → (v ≡ Some (truth true)) × (x ≡ Some y)
went None x y h = absurd (cc)
went (Some (truth true)) x y h = (refl, h)
went (Some (truth false)) x y h = absurd (cc)
went (Some (number w n)) x y h = absurd (cc)

-- a body that runs is that of a declared role, whose parameters fit
pub ran_at : (w : World) (from : Loc) (packet : Packet) (cs : List ℕ) (a : Arrival) → go_by w from packet cs ≡ Some a → (r : Role) × (w.role from.role ≡ Some r) × FieldsFit (widths_of r.params) from.values
ran_at w from packet cs a h =
    let g = went (guard_at w from) (option_and_then (λ (r : Role). body_by w r r.body from packet cs) (w.role from.role)) a h in
    let r = some_there (λ (x : Role). option_and_then (λ env. value w.context env [] x.guard) (bind x.params from.values)) (w.role from.role) (truth true) g.0 in
    let b = some_there (λ env. value w.context env [] r.0.guard) (bind r.0.params from.values) (truth true) r.2 in
    (r.0, r.1, bound_fits r.0.params from.values b.0 b.1)
