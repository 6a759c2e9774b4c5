-- The drain's live registers stand for the pieces of the events.
use Rattle.std.proofs.Common.{◌≡◌, ℕ, ◌<◌, ◌≤◌, Bool, true, false, cond, List, [], ◌∷◌, ◌++◌, length, map, Option, Some, None, refl, subst, sym, ap, ◌∙◌, arith, append_assoc, length-append}
use Rattle.std.proofs.lemmas.List.{append-nil, map-append}
use Rattle.std.specs.Option.{option_to_list}
use Rattle.poison_mem.specs.declared.event.Event.{Event}
use Rattle.poison_mem.specs.declared.event.RecordView.{RecordView}
use Rattle.reri_bank.specs.declared.layout.Control.{Control}
use Rattle.reri_bank.specs.declared.state.RecState.{RecState}
use Rattle.reri_bank.specs.Record.{rank, rec_of, with_event, ranks_above}
use Rattle.reri_bank.specs.State.{state_marked}
use Rattle.reri_bank.specs.RecordLaws.{fold_law}
use Rattle.ras_firmware.specs.Drain.{is_signalled, emission, cleared}
use Rattle.ras_firmware.proofs.Cells.{RecordCell, cell_after, cell_run, new_cell}
use Rattle.ras_firmware.specs.Pieces.{RecordAction, Log, Write, Stage, Mark, Clear, Pieces, pieces_after, pieces_run, new_pieces, is_unchanged, rest, all_pieces, joined_pieces, let_in, kept_class, IsNonempty}
use Rattle.std.specs.List.{AllByRecursion}
use Rattle.std.proofs.lemmas.Grind.{flat_map-append}
use Rattle.ras_firmware.proofs.Views.{all-append}

-- what a note and rdip say of the events: with rdip no event came since, without it one did
abbrev pub NoteStands : Option RecordView → Bool → Option ℕ → List Event → Type 0
NoteStands None rdip None events = Unit {0}
NoteStands None rdip (Some n) events = ⊥
NoteStands (Some v) rdip None events = ⊥
NoteStands (Some v) true (Some n) events = (n ≡ length events) × (Some v ≡ rec_of events)
NoteStands (Some v) false (Some n) events = n < length events

pub record StandsForPieces (c : RecordCell) (p : Pieces) : Type 0 where
  pub kept : c.state.kept ≡ rec_of p.events
  pub control : c.state.control ≡ p.control
  pub emitted : map Some c.emitted ≡ map rec_of p.pieces
  pub note : NoteStands c.note c.state.rdip p.noted p.events

-- a logged event is one more than was noted
noted_more : (note : Option RecordView) (rdip : Bool) (noted : Option ℕ) (events : List Event) (e : Event) → NoteStands note rdip noted events → NoteStands note false noted (events ++ e ∷ [])
noted_more None rdip None events e h = tt
noted_more None rdip (Some n) events e h = h
noted_more (Some v) rdip None events e h = h
noted_more (Some v) true (Some n) events e h = omega (arith, h.0, length-append events (e ∷ []))
noted_more (Some v) false (Some n) events e h = omega (arith, h, length-append events (e ∷ []))

-- log, by whether the record lets events in
log_by : (b : Bool) (c : RecordCell) (p : Pieces) (e : Event) → StandsForPieces c p
    → StandsForPieces (record { state = cond b (record { kept = Some (with_event c.state.kept e); rdip = false; control = c.state.control; staged = c.state.staged }) c.state; note = c.note; emitted = c.emitted })
    (record { pieces = p.pieces; events = cond b (p.events ++ e ∷ []) p.events; noted = p.noted; control = p.control })
log_by true c p e h = record {
  kept = ap (λ k. Some (with_event k e)) h.kept ∙ sym (fold_law p.events e);
  control = h.control;
  emitted = h.emitted;
  note = noted_more c.note c.state.rdip p.noted p.events e h.note;
}
log_by false c p e h = record { kept = h.kept; control = h.control; emitted = h.emitted; note = h.note }

-- mark, by what is kept
marked_by : (k : Option RecordView) (rdip : Bool) (control : Control) (staged : _) (emitted : List RecordView) (p : Pieces)
    → k ≡ rec_of p.events → control ≡ p.control → map Some emitted ≡ map rec_of p.pieces → (b : Bool) → is_signalled k control ≡ b
    → (let s : RecState = record { kept = k; rdip = rdip; control = control; staged = staged } in
    StandsForPieces (record { state = cond b (state_marked s) s; note = cond b k None; emitted = emitted })
    (record { pieces = p.pieces; events = p.events; noted = cond b (Some (length p.events)) None; control = p.control }))
marked_by k rdip control staged emitted p is same out false e = record { kept = is; control = same; emitted = out; note = tt }
marked_by (Some v) rdip control staged emitted p is same out true e = record { kept = is; control = same; emitted = out; note = (refl, is) }
marked_by None rdip control staged emitted p is same out true e = cc

-- clear, by the note, rdip and the noted number
clear_by : (note : Option RecordView) (rdip : Bool) (noted : Option ℕ) (k : Option RecordView) (control : Control) (staged : _) (emitted : List RecordView)
    (pieces : List (List Event)) (events : List Event) (same : Control)
    → k ≡ rec_of events → control ≡ same → map Some emitted ≡ map rec_of pieces → NoteStands note rdip noted events
    → (b : Bool) → is_unchanged noted events ≡ b
    → (let s : RecState = record { kept = k; rdip = rdip; control = control; staged = staged } in
    StandsForPieces (record { state = cleared note s; note = None; emitted = emitted ++ option_to_list (emission note s) })
    (record { pieces = cond b (pieces ++ events ∷ []) pieces; events = cond b [] events; noted = None; control = same }))
clear_by None rdip None k control staged emitted pieces events same is eq out h false e = record { kept = is; control = eq; emitted = ap (map Some) (append-nil emitted) ∙ out; note = tt }
clear_by None rdip None k control staged emitted pieces events same is eq out h true e = cc
clear_by None rdip (Some n) k control staged emitted pieces events same is eq out h b e = absurd h
clear_by (Some v) rdip None k control staged emitted pieces events same is eq out h b e = absurd h
clear_by (Some v) true (Some n) k control staged emitted pieces events same is eq out h true e = record {
  kept = refl;
  control = eq;
  emitted = map-append Some emitted (v ∷ []) ∙ ap (λ l. l ++ Some v ∷ []) out ∙ ap (λ o. map rec_of pieces ++ o ∷ []) h.1 ∙ sym (map-append rec_of pieces (events ∷ []));
  note = tt;
}
clear_by (Some v) true (Some n) k control staged emitted pieces events same is eq out h false e = let same_length : n ≡ length events = h.0 in grind arith
clear_by (Some v) false (Some n) k control staged emitted pieces events same is eq out h true e = let more : n < length events = h in grind arith
clear_by (Some v) false (Some n) k control staged emitted pieces events same is eq out h false e = record { kept = is; control = eq; emitted = ap (map Some) (append-nil emitted) ∙ out; note = tt }

pub stands_after : (c : RecordCell) (p : Pieces) (a : RecordAction) → StandsForPieces c p → StandsForPieces (cell_after c a) (pieces_after p a)
stands_after c p (Log e) h = subst (λ (b : Bool). StandsForPieces (cell_after c (Log e)) (record { pieces = p.pieces; events = cond b (p.events ++ e ∷ []) p.events; noted = p.noted; control = p.control })) (ap (λ (k : Control). k.logging) h.control) (log_by c.state.control.logging c p e h)
stands_after c p (Write control) h = record { kept = h.kept; control = refl; emitted = h.emitted; note = h.note }
stands_after c p (Stage staged) h = record { kept = h.kept; control = h.control; emitted = h.emitted; note = h.note }
stands_after c p Mark h =
    subst (λ (b : Bool). StandsForPieces (cell_after c Mark) (record { pieces = p.pieces; events = p.events; noted = cond b (Some (length p.events)) None; control = p.control }))
    (signalled_same c.state.kept (rec_of p.events) c.state.control p.control h.kept h.control)
    (marked_by c.state.kept c.state.rdip c.state.control c.state.staged c.emitted p h.kept h.control h.emitted (is_signalled c.state.kept c.state.control) refl)
  where
    signalled_same : (k k' : Option RecordView) (c c' : Control) → k ≡ k' → c ≡ c' → is_signalled k c ≡ is_signalled k' c'
    signalled_same k k' c c' e f = cc
stands_after c p Clear h =
    clear_by c.note c.state.rdip p.noted c.state.kept c.state.control c.state.staged c.emitted p.pieces p.events p.control h.kept h.control h.emitted h.note (is_unchanged p.noted p.events) refl

pub stands_run : (c : RecordCell) (p : Pieces) (actions : List RecordAction) → StandsForPieces c p → StandsForPieces (cell_run c actions) (pieces_run p actions)
stands_run c p [] h = h
stands_run c p (a ∷ actions) h = stands_run (cell_after c a) (pieces_after p a) actions (stands_after c p a h)

pub rest_is : (k : Option RecordView) (events : List Event) → k ≡ rec_of events → map Some (option_to_list k) ≡ map rec_of (rest events)
rest_is None [] h = refl
rest_is None (e ∷ es) h = cc
rest_is (Some v) [] h = cc
rest_is (Some v) (e ∷ es) h = ap (λ o. o ∷ []) h

pub pieces_stand : (control : Control) (actions : List RecordAction) → StandsForPieces (cell_run (new_cell control) actions) (pieces_run (new_pieces control) actions)
pieces_stand control actions = stands_run (new_cell control) (new_pieces control) actions (record { kept = refl; control = refl; emitted = refl; note = tt })

pub all_emitted : (control : Control) (actions : List RecordAction) →
    map Some ((cell_run (new_cell control) actions).emitted ++ option_to_list (cell_run (new_cell control) actions).state.kept) ≡ map rec_of (all_pieces (pieces_run (new_pieces control) actions))
all_emitted control actions =
    let c = cell_run (new_cell control) actions in
    let p = pieces_run (new_pieces control) actions in
    let h : StandsForPieces c p = pieces_stand control actions in
    map-append Some c.emitted (option_to_list c.state.kept)
    ∙ ap (λ l. l ++ map Some (option_to_list c.state.kept)) h.emitted
    ∙ ap (λ l. map rec_of p.pieces ++ l) (rest_is c.state.kept p.events h.kept)
    ∙ sym (map-append rec_of p.pieces (rest p.events))

joined_rest : (es : List Event) → joined_pieces (rest es) ≡ es
joined_rest [] = refl
joined_rest (e ∷ es) = append-nil (e ∷ es)

-- all that came is in the pieces and the rest
abbrev came : Pieces → List Event
came p = joined_pieces p.pieces ++ p.events

came_by : (b : Bool) (pieces : List (List Event)) (events : List Event) → joined_pieces (cond b (pieces ++ events ∷ []) pieces) ++ cond b [] events ≡ joined_pieces pieces ++ events
came_by true pieces events = append-nil _ ∙ flat_map-append (λ (es : List Event). es) pieces (events ∷ []) ∙ ap (λ l. joined_pieces pieces ++ l) (append-nil events)
came_by false pieces events = refl

pub came_run : (p : Pieces) (actions : List RecordAction) → came (pieces_run p actions) ≡ came p ++ let_in p.control actions
came_run p [] = sym (append-nil (came p))
came_run p (Log e ∷ actions) = came_run (pieces_after p (Log e)) actions ∙ logged p.control.logging
  where
    logged : (b : Bool) → (joined_pieces p.pieces ++ cond b (p.events ++ e ∷ []) p.events) ++ let_in p.control actions ≡ (joined_pieces p.pieces ++ p.events) ++ cond b (e ∷ let_in p.control actions) (let_in p.control actions)
    logged true = simp append_assoc refl
    logged false = refl
came_run p (Write c ∷ actions) = came_run (pieces_after p (Write c)) actions
came_run p (Stage staged ∷ actions) = came_run p actions
came_run p (Mark ∷ actions) = came_run (pieces_after p Mark) actions
came_run p (Clear ∷ actions) = came_run (pieces_after p Clear) actions ∙ ap (λ l. l ++ let_in p.control actions) (came_by (is_unchanged p.noted p.events) p.pieces p.events)

pub all_joined : (control : Control) (actions : List RecordAction) → joined_pieces (all_pieces (pieces_run (new_pieces control) actions)) ≡ let_in control actions
all_joined control actions =
    let p = pieces_run (new_pieces control) actions in
    flat_map-append (λ (es : List Event). es) p.pieces (rest p.events) ∙ ap (λ l. joined_pieces p.pieces ++ l) (joined_rest p.events) ∙ came_run (new_pieces control) actions

-- a noted record has an event, so each piece has one
abbrev NotedSome : Option ℕ → Type 0
NotedSome None = Unit {0}
NotedSome (Some n) = 1 ≤ n

record Sound (p : Pieces) : Type 0 where
  pieces : AllByRecursion IsNonempty p.pieces
  noted : NotedSome p.noted

rest_some : (es : List Event) → AllByRecursion IsNonempty (rest es)
rest_some [] = tt
rest_some (e ∷ es) = (tt, tt)

noted_some : (es : List Event) (control : Control) (b : Bool) → is_signalled (rec_of es) control ≡ b → NotedSome (cond b (Some (length es)) None)
noted_some [] control true h = cc
noted_some [] control false h = tt
noted_some (e ∷ es) control true h = omega arith
noted_some (e ∷ es) control false h = tt

unchanged_some : (noted : Option ℕ) (es : List Event) (b : Bool) → is_unchanged noted es ≡ b → NotedSome noted → (pieces : List (List Event)) → AllByRecursion IsNonempty pieces → AllByRecursion IsNonempty (cond b (pieces ++ es ∷ []) pieces)
unchanged_some noted es false e h pieces all = all
unchanged_some None es true e h pieces all = cc
unchanged_some (Some n) [] true e h pieces all = grind arith
unchanged_some (Some n) (x ∷ es) true e h pieces all = all-append IsNonempty pieces ((x ∷ es) ∷ []) all (tt, tt)

sound_run : (p : Pieces) (actions : List RecordAction) → Sound p → Sound (pieces_run p actions)
sound_run p [] h = h
sound_run p (Log e ∷ actions) h = sound_run (pieces_after p (Log e)) actions (record { pieces = h.pieces; noted = h.noted })
sound_run p (Write c ∷ actions) h = sound_run (pieces_after p (Write c)) actions (record { pieces = h.pieces; noted = h.noted })
sound_run p (Stage staged ∷ actions) h = sound_run p actions h
sound_run p (Mark ∷ actions) h = sound_run (pieces_after p Mark) actions (record { pieces = h.pieces; noted = noted_some p.events p.control (is_signalled (rec_of p.events) p.control) refl })
sound_run p (Clear ∷ actions) h = sound_run (pieces_after p Clear) actions (record { pieces = unchanged_some p.noted p.events (is_unchanged p.noted p.events) refl h.noted p.pieces h.pieces; noted = tt })

pub all_some : (control : Control) (actions : List RecordAction) → AllByRecursion IsNonempty (all_pieces (pieces_run (new_pieces control) actions))
all_some control actions =
    let p = pieces_run (new_pieces control) actions in
    let h : Sound p = sound_run (new_pieces control) actions (record { pieces = tt; noted = tt }) in
    all-append IsNonempty p.pieces (rest p.events) h.pieces (rest_some p.events)

-- one more event leaves the class or raises it
rises : (k : Option RecordView) (e : Event) → kept_class k ≤ kept_class (Some (with_event k e))
unfolding with_event
rises None e = omega arith
rises (Some v) e = rises_by (ranks_above e v.kept) refl
  where
    rises_by : (b : Bool) → ranks_above e v.kept ≡ b → rank v.kept.class ≤ rank (cond b e v.kept).class
    rises_by true h = grind arith
    rises_by false h = omega arith

pub never_falls : (front back : List Event) → kept_class (rec_of front) ≤ kept_class (rec_of (front ++ back))
never_falls front [] = subst (λ (es : List Event). kept_class (rec_of front) ≤ kept_class (rec_of es)) (sym (append-nil front)) (omega arith)
never_falls front (e ∷ back) =
    let one : kept_class (rec_of front) ≤ kept_class (rec_of (front ++ e ∷ [])) = subst (λ (k : Option RecordView). kept_class (rec_of front) ≤ kept_class k) (sym (fold_law front e)) (rises (rec_of front) e) in
    let more = never_falls (front ++ e ∷ []) back in
    let P : List Event → Type 0 = λ es. kept_class (rec_of front) ≤ kept_class (rec_of es) in
    subst P (append_assoc front (e ∷ []) back) (omega (arith, one, more))
