-- What a team leaves of a doacross nest wave by wave is what the nest leaves. (OpenMP 5.2, 15.9.6 and 15.10.1)
use Rattle.std.specs.Prelude.{ℕ, suc, Bool, true, false, ◌≡◌, ◌<◌, ◌≤◌, ◌+◌, ◌^◌, ◌&&◌, if◌then◌else◌, List, [], ◌∷◌, ◌++◌, length, map, flat_map, Option, Some, None, IsSome, slice_get, option_map}
use Rattle.std.specs.List.{list_all}
use Rattle.std.proofs.Common.{refl, sym, ap, ◌∙◌, subst, inl, inr, arith, append-nil}
use Rattle.std.proofs.Math.Path.{fun_ext}
use Rattle.std.proofs.lemmas.Bool.{true≢false}
use Rattle.std.proofs.lemmas.List.{length-map}
use Rattle.std.proofs.lemmas.Option.{same_Some, none-some, slice_get-map, slice_get_within}
use Rattle.semantics.specs.Tree.{Variable, Stmt}
use Rattle.semantics.specs.Meaning.Agrees.{is_among, visible_behind}
use Rattle.semantics.specs.Meaning.State.{State, is_there}
use Rattle.semantics.specs.Meaning.Places.{below}
use Rattle.semantics.specs.Meaning.Value.{map_option}
use Rattle.semantics.specs.Meaning.Runs.{Effect, run}
use Rattle.semantics.specs.Loops.Chunk.{Kind, IsSized, cut}
use Rattle.semantics.specs.Loops.Joined.{chunked}
use Rattle.semantics.specs.Loops.Nest.{Loop, Vector, iterations}
use Rattle.semantics.specs.Loops.Operator.{ReduceOp}
use Rattle.semantics.specs.Loops.Order.{Distance, wave, wave_count}
use Rattle.semantics.specs.Loops.Piece.{Roles}
use Rattle.ktree.specs.View.{stmt_of}
use Rattle.law_commute.proofs.Values.{first_of, second_of}
use Rattle.law_roles.specs.Updates.{operator_of, is_plain}
use Rattle.law_roles.specs.Sharing.{role_variables, are_different, IsScalar, MayStart}
use Rattle.law_starts.specs.Begun.{told_apart}
use Rattle.law_waves.specs.Doacross.{StandsBehind, SharesInWaves}
use Rattle.law_independence.specs.OrderLaws.{AreAtHand, WavesInChunks}
use Rattle.law_independence.proofs.Targeted.{outside_visible}
use Rattle.law_scopes.specs.Apart.{is_at_turn}
use Rattle.law_scopes.proofs.Spots.{some_of}
use Rattle.law_scopes.proofs.Turning.{at_turns}
use Rattle.law_apart.specs.Apart.{left_effect, is_at_hand, handed}
use Rattle.store.specs.Kept.{Kept}
use Rattle.store.specs.Flat.{values_of}
use Rattle.seqrun.specs.Ran.{lengths_of}
use Rattle.lower_code.specs.declared.laid.Laid.{Laid}
use Rattle.lower_code.specs.Layout.{shapes_of, cell_at}
use Rattle.lower_machine.specs.Machine.{Fits, machine}
use Rattle.lower.specs.Lowered.{IsReached}
use Rattle.nest_space.specs.Space.{vectors}
use Rattle.lower_run.specs.Walk.{StandFor, Arrives}
use Rattle.flow.specs.Roles.{LineData}
use Rattle.waves.specs.Wanted.{SinkList, vector_at, AreWaves}
use Rattle.outline.specs.declared.shape.TeamLoop.{TeamLoop}
use Rattle.outline.specs.declared.shape.Way.TheVariants.{Waves}
use Rattle.outline.specs.Fit.{WayFits, TeamFits}
use Rattle.outline.specs.View.{roles_in}
use Rattle.team.specs.Waved.{WaveLeaves, AreWaved, LeavesInWaves}
use Rattle.team_worker.proofs.Cutting.{at_below}
use Rattle.ompk_run.proofs.AtHand.{at_hand}
use Rattle.ompk_run.proofs.AtTurn.{at_turn}
use Rattle.ompk_run.proofs.Behind.{arrives}
use Rattle.ompk_run.proofs.Chunks.{cover}
use Rattle.ompk_run.proofs.Leaving.{role_told}
use Rattle.ompk_run.proofs.Numbered.{declares, no_cell}
use Rattle.ompk_run.proofs.Spaced.{may_be_reached}

-- a loop that may be run in waves has their sinks
pub waved_so : (layout : List Laid) (mark : ℕ) (R : LineData) (serial : List Loop) (l : TeamLoop) (fits : TeamFits layout mark R serial l) (sinks : SinkList) → l.way ≡ Waves sinks → fits.said.sinks ≡ Some sinks.distances
waved_so layout mark R serial l fits sinks e =
    subst (λ w. WayFits layout mark fits.box (roles_in R l) fits.declarations (R l.line) fits.said serial l.depth (stmt_of l.statement.now) fits.nested l.lowered w) e fits.way

-- of two lists of images that are one, those of an element
image_at : {A B C : Type 0} (f : A → C) (g : B → C) (xs : List A) (ys : List B) → map f xs ≡ map g ys → (j : ℕ) (x : A) (y : B) → slice_get xs j ≡ Some x → slice_get ys j ≡ Some y → f x ≡ g y
image_at f g xs ys same j x y at there =
    same_Some (f x) (g y) (sym (slice_get-map f xs j ∙ ap (option_map f) at) ∙ ap (λ zs. slice_get zs j) same ∙ slice_get-map g ys j ∙ ap (option_map g) there)

module _ (layout : List Laid) (mark : ℕ) (s : State) (rs : List ℕ) (ks : List Kept) (stand : StandFor layout mark s rs ks) (R : LineData) (serial : List Loop) (l : TeamLoop) (fits : TeamFits layout mark R serial l)
    (sinks : List Distance) (told : fits.said.sinks ≡ Some sinks) where
  abbrev roles : Roles
  roles = roles_in R l

  abbrev loop : Stmt
  loop = stmt_of l.statement.now

  its : WavesInChunks roles sinks serial l.depth loop
  its = fits.nested.waves sinks told

  seen : (x : Variable) → is_among (role_variables roles) x ≡ true → visible_behind loop x ≡ true
  seen x h = outside_visible loop x (fits.nested.assigned x ∙ h)

  none_apart : told_apart roles ≡ []
  none_apart = (λ i. its.no_lasts i ++ map (λ r. r.0) (its.no_reductions i))

  -- the locals of the state before the nest, over a store
  abbrev over : List Kept → State
  over kept = record s { cells = λ x is. cell_at (shapes_of layout) (values_of kept) x is }

  -- a store of the same variables, with numbers of 64 bits
  record IsStore (kept : List Kept) : Type 0 where
    shape : lengths_of kept ≡ lengths_of ks
    words : Fits (machine rs (values_of kept))
    room : length (values_of kept) < 2 ^ 64

  stands_over : (kept : List Kept) → IsStore kept → StandFor layout mark (over kept) rs kept
  stands_over kept is = record {
    machine = record {
      laid = stand.machine.laid;
      fits = is.words;
      width = stand.machine.width;
      room = is.room;
      local = stand.machine.local;
      file_scope = stand.machine.file_scope;
      unmarked = stand.machine.unmarked;
      cell = λ x is. refl;
    };
    shape = is.shape ∙ stand.shape;
  }

  over_before : over ks ≡ s
  over_before = ap (λ cells. record s { cells = cells }) (fun_ext (λ x. fun_ext (λ is. sym (stand.machine.cell x is))))

  module _ (here : is_at_turn serial s ≡ true) (hand : AreAtHand roles loop s) where
    -- a variable with a role is a local, whatever the store holds
    scalar : (kept : List Kept) (x : Variable) → is_among (role_variables roles) x ≡ true → IsScalar (over kept) x
    scalar kept x role = at (hand.scalars x role)
      where
        past : length layout ≤ x
        past = fits.privates x (role_told roles x role (ap (λ xs. is_among xs x) none_apart))

        at : IsScalar s x → IsScalar (over kept) x
        at (inl inside) = inl inside
        at (inr file) = absurd (true≢false (sym file.there ∙ ap is_there (stand.machine.cell x [] ∙ no_cell layout (values_of ks) x [] past)))

    may_start : (kept : List Kept) → MayStart roles (over kept) (over kept)
    may_start kept = record {
      locals = λ x none. refl;
      cells = λ x is none. refl;
      scalars = scalar kept;
      begins = λ x op v is held. absurd (none-some op (sym (ap (λ rs. operator_of rs x) its.no_reductions) ∙ is));
    }

    module _ (us : List Vector) (are : iterations fits.loops s ≡ Some us) where
      -- registers and a store behind the first i waves
      record IsBehind (i : ℕ) (kept : List Kept) : Type 0 where
        store : IsStore kept
        stands : StandsBehind roles sinks loop fits.loops fits.body us s i (over kept)

      reached : (i : ℕ) (kept : List Kept) → IsStore kept → iterations fits.loops (over kept) ≡ Some us → IsReached layout mark roles fits.loops fits.body (over kept) us l.lowered rs kept
      reached i kept is same = record {
        box = fits.box;
        lowered = fits.lowered;
        stand = stands_over kept is;
        counters = λ x counter. at_turn s serial here x (fits.known x counter);
        fits =
            may_be_reached layout mark fits.box roles serial fits.loops fits.body s l.lowered rs ks fits.lowered stand fits.known (λ x counter. at_turn s serial here x (fits.known x counter))
            (fits.runs fits.loops fits.body s fits.nest (at_turns serial s here));
        are = same;
        different = ap (λ (rs : List (Variable × ReduceOp)). are_different (map (λ r. r.0) rs)) its.no_reductions;
        apart = ap (λ (xs : List Variable). list_all (is_plain roles.reductions) xs) its.no_lasts;
        held = λ x op is'. absurd (none-some op (sym (ap (λ rs. operator_of rs x) its.no_reductions) ∙ is'));
      }

      module _ (kind : Kind) (workers : ℕ) (sized : IsSized kind) (some : 0 < workers) (e : Effect) (law : SharesInWaves roles sinks loop fits.loops fits.body us s e) where
        -- one wave more
        next : (i : ℕ) (numbers : List ℕ) (kept after : List Kept) → map (vector_at us) numbers ≡ wave us sinks i → IsBehind i kept → WaveLeaves l.lowered numbers rs kept after kind workers → IsBehind (suc i) after
        next i numbers kept after is behind leaves =
            let one = law.goes_on i (over kept) behind.stands in
            let chunks = chunked (map (vector_at us) numbers) (cut kind (length numbers) workers) in
            let whole = ap (λ n. flat_map (λ vs. vs) (chunked (map (vector_at us) numbers) (cut kind n workers))) (sym (length-map numbers (vector_at us))) ∙ cover (map (vector_at us) numbers) kind workers sized some ∙ is in
            let shares = one.shares (over kept) chunks (may_start kept) whole in
            let merged = leaves.together layout mark roles fits.loops fits.body (over kept) us shares.effects its.no_reductions its.no_lasts (reached i kept behind.store one.are) shares.each in
            let store : IsStore after = record { shape = leaves.shape ∙ behind.store.shape; words = leaves.words; room = leaves.room } in
            record {
              store = store;
              stands = one.next (over after)
                  (record { cells = λ x js none. shares.merge (λ y ms. cell_at (shapes_of layout) (values_of after) y ms) (λ y ms r. merged y ms) x js none; locals = λ x visible none. refl; scalars = scalar after });
            }

        -- and so all of them
        all : (i : ℕ) (numbers : List (List ℕ)) (kept after : List Kept) → ((j : ℕ) (ns : List ℕ) → slice_get numbers j ≡ Some ns → map (vector_at us) ns ≡ wave us sinks (i + j)) → IsBehind i kept → AreWaved l.lowered numbers rs kept after kind workers
            → IsBehind (i + length numbers) after
        all i [] kept after is behind waved = subst (λ n. IsBehind n after) (let e : i ≡ i + 0 = omega arith in e) (subst (IsBehind i) (sym waved) behind)
        all i (ns ∷ numbers) kept after is behind (between, leaves, waved) =
            let first : i + 0 ≡ i = omega arith in
            subst (λ n. IsBehind n after) (let e : suc i + length numbers ≡ i + suc (length numbers) = omega arith in e)
            (all (suc i) numbers between after (λ j ms at. is (suc j) ms at ∙ ap (wave us sinks) (let e : i + suc j ≡ suc i + j = omega arith in e))
            (next i ns kept between (is 0 ns refl ∙ ap (wave us sinks) first) behind leaves) waved)

  module _ (kind : Kind) (workers : ℕ) (sized : IsSized kind) (some : 0 < workers) (ks' : List Kept) (leaves : LeavesInWaves l.lowered sinks rs ks ks' kind workers) (shape : lengths_of ks' ≡ lengths_of ks)
      (words : Fits (machine rs (values_of ks))) (words' : Fits (machine rs (values_of ks'))) (room' : length (values_of ks') < 2 ^ 64) (text : List ℕ) where
    behind : (is_at_turn serial s && is_at_hand roles loop s) ≡ true → (e : Effect) → run loop s ≡ Some e → Arrives layout mark (Some (left_effect (told_apart roles) s e)) s rs ks' text text
    behind guard e ran =
        let here = first_of (is_at_turn serial s) (is_at_hand roles loop s) guard in
        let near = second_of (is_at_turn serial s) (is_at_hand roles loop s) guard in
        let turn = at_turns serial s here in
        let hand = at_hand layout mark s rs ks stand roles loop near in
        let us = some_of (iterations fits.loops s) (fits.nested.there fits.loops fits.body s fits.nest turn) in
        let law = its.passes fits.loops fits.body s us.0 e fits.nest turn (declares layout mark s rs ks stand loop fits.locals) hand us.1 ran in
        let before : IsStore ks = record { shape = refl; words = words; room = stand.machine.room } in
        let same : us.0 ≡ vectors leaves.space = leaves.of layout mark roles fits.loops fits.body s us.0 ks (subst (λ t. IsReached layout mark roles fits.loops fits.body t us.0 l.lowered rs ks) over_before (reached here hand us.0 us.1 0 ks before (ap (iterations fits.loops) over_before ∙ us.1))) in
        let waves : AreWaves us.0 sinks leaves.numbers = subst (λ vs. AreWaves vs sinks leaves.numbers) (sym same) leaves.are in
        let begins : IsBehind here hand us.0 us.1 0 ks = record { store = before; stands = subst (StandsBehind roles sinks loop fits.loops fits.body us.0 s 0) (sym over_before) law.begins } in
        let each : (j : ℕ) (ns : List ℕ) → slice_get leaves.numbers j ≡ Some ns → map (vector_at us.0) ns ≡ wave us.0 sinks (0 + j) =
        λ j ns at. image_at (map (vector_at us.0)) (wave us.0 sinks) leaves.numbers (below (wave_count us.0 sinks)) waves.iterations j ns j at (at_below j (wave_count us.0 sinks) (subst (λ n. j < n) waves.count (slice_get_within leaves.numbers j ns at)))
        ∙ ap (wave us.0 sinks) (let e : j ≡ 0 + j = omega arith in e) in
        let done = all here hand us.0 us.1 kind workers sized some e law 0 leaves.numbers ks ks' each begins leaves.waved in
        let ended = law.ends (over ks') (subst (λ n. StandsBehind roles sinks loop fits.loops fits.body us.0 s n (over ks')) ((let e : 0 + length leaves.numbers ≡ length leaves.numbers = omega arith in e) ∙ waves.count) done.stands) in
        arrives layout mark s rs ks stand rs ks' roles loop seen hand fits.privates e ran
        (record { told = λ x k. absurd (true≢false (sym k ∙ ap (λ xs. is_among xs x) none_apart)); others = λ r none. refl; objects = λ x js none. ended.cells x js none })
        refl shape words' room' (sym (append-nil text) ∙ ap (λ t. text ++ t) (sym law.text))

    pub waves_arrive : IsSome (handed roles serial loop s) → Arrives layout mark (handed roles serial loop s) s rs ks' text text
    waves_arrive there = go (is_at_turn serial s && is_at_hand roles loop s) refl (run loop s) refl there
      where
        go : (b : Bool) → (is_at_turn serial s && is_at_hand roles loop s) ≡ b → (o : Option Effect) → run loop s ≡ o → IsSome (if b then map_option (left_effect (told_apart roles) s) o else None)
            → Arrives layout mark (if b then map_option (left_effect (told_apart roles) s) o else None) s rs ks' text text
        go false q o r h = absurd cc
        go true q None r h = absurd cc
        go true q (Some e) r h = behind q e r
