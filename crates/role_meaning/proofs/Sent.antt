-- What is sent, as the code compares it; and what a body can send, by the choices that are tried.
use Rattle.std.proofs.Common.{◌≡◌, ℕ, ◌↔◌, Bool, true, false, List, [], ◌∷◌, ◌++◌, ◌||◌, All, IsTrue, Option, Some, None, IfSome, Result, Ok, Err, IfOk, option_map, length, take, drop, Vec, Global, refl, sym, ap, ap₂, subst, ◌∙◌}
use Rattle.std.proofs.lemmas.List.{append-nil, take-append-drop}
use Rattle.std.proofs.lemmas.List.Elements.{All-head, All-tail}
use Rattle.cocoon_num.specs.Names.{same_name}
use Rattle.cocoon_num.specs.PacketForms.{FieldsFit}
use Rattle.cocoon_num.specs.Packets.{Packet}
use Rattle.cocoon_num.specs.Tree.{Design, HeaderDecl, Param}
use Rattle.cocoon_num.specs.declared.fun_table.FunTable.{FunTable}
use Rattle.cocoon_resolve.specs.Readers.{all_widths, field_widths, HasRole}
use Rattle.cocoon_types.specs.Design.{widths_of}
use Rattle.cocoon_types.specs.Runs.{Go, Loc, world, World}
use Rattle.cocoon_types.specs.Tables.{Defs}
use Rattle.cocoon_types.specs.Taken.{go, RunsAreTaken}
use Rattle.declarations.specs.Declares.{role_number}
use Rattle.role_meaning.proofs.Bridges.{bound_fit}
use Rattle.role_meaning.proofs.Guards.{role_name_of}
use Rattle.role_meaning.specs.Goings.{all_taken, went_of}
use Rattle.role_meaning.specs.Located.{at_role, loc_of, role_name, sent_of}
use Rattle.role_meaning.specs.declared.place.Loc as code
use Rattle.role_meaning.specs.declared.place.Packet as sent
use Rattle.role_values.specs.Flat.{packet_of}
use Rattle.role_values.specs.Worlds.{world_by}
use Rattle.refinement.specs.Sending.{CanSend, flat}
use Rattle.sound_types.proofs.Options.{same_text}
use Rattle.sound_types.specs.Ends.{LocFits}
use Rattle.role_meaning.specs.Views.{some_tried}

-- ---- packets and locations, by their numbers

rest_fits : (ps : List Param) (vs ns : List ℕ) → FieldsFit (widths_of ps ++ vs) ns → FieldsFit vs (drop (length ps) ns)
rest_fits [] vs ns h = h
rest_fits (p ∷ ps) vs [] h = absurd h
rest_fits (p ∷ ps) vs (n ∷ ns) h = rest_fits ps vs ns h.1

flat_of : (hs : List HeaderDecl) (ns : List ℕ) → FieldsFit (all_widths hs) ns → flat (packet_of hs ns) ≡ ns
flat_of [] [] h = refl
flat_of [] (n ∷ ns) h = absurd h
flat_of (h ∷ hs) ns fits =
    ap (λ xs. take (length h.fields) ns ++ xs) (flat_of hs (drop (length h.fields) ns) (rest_fits h.fields (all_widths hs) ns fits))
    ∙ take-append-drop (length h.fields) ns

-- the numbers of a packet that fits
pub flat_sent : (d : Design) (p : sent.Packet) → FieldsFit (field_widths d) p.fields → flat (sent_of d p) ≡ p.fields
flat_sent d p fits = flat_of d.headers p.fields fits

same_packet : (d : Design) (p q : sent.Packet) → FieldsFit (field_widths d) p.fields → FieldsFit (field_widths d) q.fields → sent_of d p ≡ sent_of d q → p ≡ q
same_packet d p q f g e =
    let fields : p.fields ≡ q.fields = sym (flat_sent d p f) ∙ ap flat e ∙ flat_sent d q g in
    ap (λ ns. let made : sent.Packet = record { fields = ns } in made) fields

same_role : (d : Design) (level a b : ℕ) → HasRole d a level → HasRole d b level → role_name d a ≡ role_name d b → a ≡ b
same_role d level a b p q e =
    let names : p.name ≡ q.name = sym (role_name_of d p.name a p.number) ∙ e ∙ role_name_of d q.name b q.number in
    let both : Some a ≡ Some b = sym p.number ∙ ap (role_number d) names ∙ q.number in
    cc

same_place : (d : Design) (level : ℕ) (at to : code.Loc) → HasRole d at.role level → HasRole d to.role level → loc_of d at ≡ loc_of d to → at ≡ to
same_place d level at to p q e =
    ap₂ at_role (same_role d level at.role to.role p q (ap (λ (l : Loc). l.role) e)) (ap (λ (l : Loc). l.values) e)

-- a run that leads to what is wanted does so in the code's numbers
pub is_led : (d : Design) (level : ℕ) (to : code.Loc) (p : sent.Packet) (led : Option (code.Loc × sent.Packet))
    → HasRole d to.role level → FieldsFit (field_widths d) p.fields
    → IfSome led (λ r. HasRole d r.0.role level) → IfSome led (λ r. FieldsFit (field_widths d) r.1.fields)
    → Some (loc_of d to, sent_of d p) ≡ option_map (went_of d) led → led ≡ Some (to, p)
is_led d level to p None there fits roles fields e = absurd (cc)
is_led d level to p (Some r) there fits roles fields e =
    let both : (loc_of d to, sent_of d p) ≡ (loc_of d r.0, sent_of d r.1) = cc in
    let at : r.0 ≡ to = same_place d level r.0 to roles there (sym (ap (λ (x : Loc × Packet). x.0) both)) in
    let packet : r.1 ≡ p = same_packet d r.1 p fields fits (sym (ap (λ (x : Loc × Packet). x.1) both)) in
    (λ i. Some (at i, packet i))

-- ---- lists that are tried

none_tried : (P : List ℕ → Type 0) (ns : List ℕ) (found : List (Vec ℕ Global)) → All (λ (v : Vec ℕ Global). P v.items → ⊥) found → P ns → some_tried (same_name ns) found ≡ true → ⊥
none_tried P ns [] none holds h = cc
none_tried P ns (v ∷ vs) none holds h =
    by_first (same_name ns v.items) refl (none_tried P ns vs (All-tail (λ (v : Vec ℕ Global). P v.items → ⊥) v vs none) holds) h
  where
    by_first : (b : Bool) → same_name ns v.items ≡ b → (some_tried (same_name ns) vs ≡ true → ⊥) → (b || some_tried (same_name ns) vs) ≡ true → ⊥
    by_first true e later h = All-head (λ (v : Vec ℕ Global). P v.items → ⊥) v vs none (subst P (same_text ns v.items e) holds)
    by_first false e later h = later h

-- ---- sends

-- what is sent under definitions is sent by the tables that stand for them
by_tables : (taken : RunsAreTaken) (d : Design) (level : ℕ) (defs : Defs) (tables : List (Option FunTable)) (from to : Loc) (packet sent : Packet)
    → ((choices : List ℕ) → LocFits level d from → go (world_by tables level d) from packet choices ≡ go (world level d defs) from packet choices)
    → CanSend (world level d defs) from packet to sent → CanSend (world_by tables level d) from packet to sent
by_tables taken d level defs tables from to packet sent same can =
    let g = can.1 in
    let fits : LocFits level d from = (g.role, g.role_is, bound_fit g.role.params from.values g.env g.env_is) in
    let used = taken.gives (world_by tables level d) from packet (can.0 ++ []) to sent [] (same (can.0 ++ []) fits ∙ taken.takes (world level d defs) from packet can.0 to sent can.1 []) in
    (used.0, used.2)

gone : (taken : RunsAreTaken) (w : World) (from to : Loc) (packet sent : Packet) (choices : List ℕ) → Go w from packet choices to sent → Some (to, sent) ≡ all_taken (go w from packet choices)
gone taken w from to packet sent choices g =
    sym (ap all_taken (ap (go w from packet) (sym (append-nil choices)) ∙ taken.takes w from packet choices to sent g []))

pub IfOk-both : {A E : Type 0} (r : Result A E) (P Q : A → Type 0) → IfOk r P → IfOk r Q → IfOk r (λ a. P a × Q a)
IfOk-both (Ok a) P Q p q = (p, q)
IfOk-both (Err e) P Q p q = tt

-- one of the lists that were tried gives the send if some choices do
pub exactly : (taken : RunsAreTaken) (d : Design) (level : ℕ) (defs : Defs) (tables : List (Option FunTable)) (from to : Loc) (packet sent : Packet) (found : List (Vec ℕ Global)) (can : Bool)
    → ((choices : List ℕ) → LocFits level d from → go (world_by tables level d) from packet choices ≡ go (world level d defs) from packet choices)
    → (CanSend (world_by tables level d) from packet to sent → (choices : List ℕ) × Go (world_by tables level d) from packet choices to sent × some_tried (same_name choices) found ≡ true)
    → (can ≡ true → CanSend (world level d defs) from packet to sent)
    → (can ≡ false → All (λ (v : Vec ℕ Global). Some (to, sent) ≡ all_taken (go (world_by tables level d) from packet v.items) → ⊥) found)
    → IsTrue can ↔ CanSend (world level d defs) from packet to sent
exactly taken d level defs tables from to packet sent found true same tried sends fails = (sends, λ can. refl)
exactly taken d level defs tables from to packet sent found false same tried sends fails = (
  sends,
  λ can. (let t = tried (by_tables taken d level defs tables from to packet sent same can) in
      absurd (none_tried (λ cs. Some (to, sent) ≡ all_taken (go (world_by tables level d) from packet cs)) t.0 found (fails refl)
      (gone taken (world_by tables level d) from to packet sent t.0 t.1) t.2)),
)
