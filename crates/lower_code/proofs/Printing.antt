-- Pieces that are made so far mean the parts so far.
use Rattle.std.proofs.Common.{◌≡◌, ℕ, suc, ◌+◌, ◌<◌, ◌≤◌, List, [], ◌∷◌, ◌++◌, length, map, get_or, drop, add-one, drop-cons, append-nil, append_assoc, Some, Vec, Global, refl, sym, ap, ◌∙◌, flat_map}
use Rattle.std.proofs.lemmas.List.{drop_all}
use Rattle.std.proofs.lemmas.Grind.{flat_map-append}
use Rattle.std.specs.Fmt.{decimal}
use Rattle.semantics.specs.Tree
use Rattle.semantics.specs.Meaning.State.{State}
use Rattle.semantics.specs.Meaning.Value.{value}
use Rattle.semantics.specs.Meaning.Runs.{part_text, print_text}
use Rattle.ktree.specs.View.{part_of}
use Rattle.ktree.specs.declared.statement.PrintPart.{PrintPart}
use Rattle.lower_code.specs.declared.laid.Laid.{Laid}
use Rattle.lower_machine.specs.declared.term.Term.{Term}
use Rattle.lower_machine.specs.declared.term.Piece.{Piece}
use Rattle.lower_machine.specs.declared.term.Piece.TheVariants.{Characters, Decimal}
use Rattle.lower_machine.specs.Machine.{Machine, piece_text}
use Rattle.lower_code.specs.Meaning.{Represents, MeansValue, MeansPart, MeansText}
use Rattle.lower_code.proofs.Spots.{same_some}
use Rattle.lower_code.proofs.Values.{map_there, both_there}

pub decimal_means : (layout : List Laid) (e : Tree.Expr) (t : Term) → MeansValue layout e t → MeansPart layout (Tree.Decimal e) (Decimal t)
decimal_means layout e t means mark s m text stands h =
    let w = map_there decimal (value s e) text h in
    ap decimal (means mark s m w.0 stands w.1) ∙ w.2

pub characters_mean : (layout : List Laid) (bytes copy : Vec ℕ Global) → copy.items ≡ bytes.items → MeansPart layout (Tree.Characters bytes.items) (Characters copy)
characters_mean layout bytes copy same mark s m text stands h = same ∙ same_some h

abbrev pub Printed : List Laid → List PrintPart → ℕ → List Piece → Type 0
Printed layout parts i pieces =
    (mark : ℕ) (s : State) (m : Machine) (t : List ℕ) → Represents layout mark s m → print_text s (map part_of parts) ≡ Some t
    → (rest : List ℕ) × (print_text s (map part_of (drop i parts)) ≡ Some rest) × (t ≡ flat_map (piece_text m) pieces ++ rest)

pub printed_from : (layout : List Laid) (parts : List PrintPart) → Printed layout parts 0 []
printed_from layout parts mark s m t stands h = (t, h, refl)

pub printed_on : (layout : List Laid) (parts : List PrintPart) (i : ℕ) (part : PrintPart) (pieces : List Piece) (piece : Piece) → i < length parts → part ≡ get_or parts i part → Printed layout parts i pieces → MeansPart layout (part_of part) piece → Printed layout parts (i + 1) (pieces ++ piece ∷ [])
printed_on layout parts i part pieces piece lt at so_far means mark s m t stands h =
    let next : drop i parts ≡ part ∷ drop (i + 1) parts = rw add-one (drop-cons parts i part lt ∙ ap (λ x. x ∷ drop (suc i) parts) (sym at)) in
    let p = so_far mark s m t stands h in
    let w = both_there (λ a b. a ++ b) (part_text s (part_of part)) (print_text s (map part_of (drop (i + 1) parts))) p.0 (sym (ap (λ xs. print_text s (map part_of xs)) next) ∙ p.1) in
    let is = means mark s m w.0 stands w.2 in
    let f = piece_text m in
    (w.1, w.3, p.2 ∙ ap (λ l. flat_map f pieces ++ l) (sym w.4 ∙ ap (λ l. l ++ w.1) (sym is ∙ sym (append-nil (f piece)))) ∙ sym (append_assoc (flat_map f pieces) (f piece ++ []) w.1) ∙ ap (λ l. l ++ w.1) (sym (flat_map-append f pieces (piece ∷ []))))

pub printed_over : (layout : List Laid) (parts : List PrintPart) (i : ℕ) (pieces : List Piece) → length parts ≤ i → Printed layout parts i pieces → MeansText layout (map part_of parts) pieces
printed_over layout parts i pieces le so_far mark s m t stands h =
    let p = so_far mark s m t stands h in
    let none : p.0 ≡ [] = same_some (sym p.1 ∙ ap (λ xs. print_text s (map part_of xs)) (drop_all i parts le)) in
    sym (p.2 ∙ ap (λ l. flat_map (piece_text m) pieces ++ l) none ∙ append-nil (flat_map (piece_text m) pieces))
