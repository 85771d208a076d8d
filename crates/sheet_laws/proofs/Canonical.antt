-- One record more that is taken: what holds of the records read so far holds with it.
use Rattle.std.specs.Prelude.{Some}
use mathlib.Core.Path.{◌≡◌, refl, sym, ap, subst₂, ◌∙◌}
use mathlib.Core.Bool.{true, false}
use mathlib.Core.Logic.{inr}
use mathlib.Core.List.{List, [], ◌∷◌, ◌++◌, append_assoc, append-nil}
use Prim.Native.Nat.{ℕ, ◌+◌, ◌≤◌, ◌<◌}
use native.Mathlib.Omega.{arith}
use lib.ListN.{length, take, length-append}
use lib.Seq.{drop_at, length-take-le}
use lib.Dec.{leb}
use borrow.Author.Tests.{leb-true, ne_eqb}
use Rattle.memory.specs.declared.Lock.{Lock}
use Rattle.ground.specs.Bytes.{Bytes, byte_at}
use Rattle.ground.proofs.Bytes.{bytes_tail, bytes_take, bytes_drop}
use Rattle.ground.proofs.Choice.{both_true}
use Rattle.sheet.specs.Limits.{profile_limit, lock_limit}
use Rattle.sheet.specs.Kinds.{kind_of, body_length, length_behind, in_order}
use Rattle.sheet.specs.Setups.{no_lock, empty_terms, no_marks, nothing_gathered}
use Rattle.sheet.specs.Records.{features_rule, features_of, sizes_rule, sizes_of, key_rule, key_of}
use Rattle.sheet.specs.Records.{profile_rule, slot_of, lock_rule, lock_of}
use Rattle.sheet.specs.Judgement.{too_many, with_features, with_sizes, with_key, with_profile, with_lock}
use Rattle.sheet.specs.KeysMet.{key_said}
use Rattle.sheet.specs.Writer.{features_body, key_body, profile_body, lock_body}
use Rattle.sheet.specs.Writer.{keys_written, profiles_written, locks_written}
use Rattle.sheet.specs.declared.Kind.{Kind}
use Rattle.sheet.specs.declared.Kind.TheVariants.{KeyRecord, LockRecord}
use Rattle.sheet.specs.declared.Key.{Key}
use Rattle.sheet.specs.declared.Slot.{Slot}
use Rattle.sheet.specs.declared.Gathered.{Gathered}
use Rattle.sheet.proofs.Rules.{profile_place}
use Rattle.sheet.proofs.Judgements.{key_room_lem, lock_room}
use Rattle.sheet.proofs.Walks.{Took, took_features, took_sizes, took_key, took_profile, took_lock, Step}
use Rattle.sheet.proofs.Ends.{code_of, kind_code}
use Rattle.sheet_laws.proofs.Tables.{longer}
use Rattle.sheet_laws.proofs.States.{marks_of, up_to, profile_marks, lock_marks, slot_gathered, lock_gathered}
use Rattle.sheet_laws.proofs.Sound.{Fine, Sound, none, first, more, opening, body}
use Rattle.sheet_laws.proofs.Forth.{features_iam, features_forth, sizes_low, sizes_forth}
use Rattle.sheet_laws.proofs.Forth.{key_rises, key_within, key_forth}
use Rattle.sheet_laws.proofs.Forth.{profile_rises, profile_within, profile_forth}
use Rattle.sheet_laws.proofs.Forth.{lock_within, lock_forth, area_05}
use Rattle.sheet.proofs.Back.{features_back}
use Rattle.sheet_laws.proofs.Lists.{keys_more, next_key_lem, keys_written_lem}
use Rattle.sheet_laws.proofs.Lists.{locks_more, next_area_lem, next_word_lem, locks_written_lem}
use Rattle.sheet_laws.proofs.Lists.{up_length, up_fine, up_written}

-- a kind behind the opening records is at least 03, and at least the one before
order_back : (last b : ℕ) → 2 ≤ last → in_order last b ≡ true → (3 ≤ b) × (last ≤ b)
unfolding in_order
order_back last b l e =
    let n0 = ne_eqb last 0 (λ q. (let z : ⊥ = omega arith in z)) in
    let n1 = ne_eqb last 1 (λ q. (let z : ⊥ = omega arith in z)) in
    let h = both_true (leb 3 b) (leb last b) (rw (n0, n1) at e) in
    (leb-true 3 b h.0, leb-true last b h.1)

-- what is written of one record more stands at the end
glue_key : (o a p l x : List ℕ) → p ≡ [] → l ≡ [] → o ++ ((a ++ x) ++ (p ++ l)) ≡ (o ++ (a ++ (p ++ l))) ++ x
glue_key o a p l x ep el = rw (ep, el) (simp (append-nil, append_assoc))

glue_slot : (o a p l x : List ℕ) → l ≡ [] → o ++ (a ++ ((p ++ x) ++ l)) ≡ (o ++ (a ++ (p ++ l))) ++ x
glue_slot o a p l x el = rw el (simp (append-nil, append_assoc))

glue_lock : (o a p l x : List ℕ) → o ++ (a ++ (p ++ (l ++ x))) ≡ (o ++ (a ++ (p ++ l))) ++ x
glue_lock o a p l x = simp append_assoc

no_slot_bytes : (ss : List Slot) → ss ≡ [] → profiles_written 0 ss ≡ []
unfolding profiles_written
no_slot_bytes ss e = ap (profiles_written 0) e

no_lock_bytes : (ls : List Lock) → ls ≡ [] → locks_written ls ≡ []
unfolding locks_written
no_lock_bytes ls e = ap locks_written e

module _ (limit : ℕ) where
  moved : {c c' : List ℕ} {k k' : Gathered} {ks : List Key} → c ≡ c' → k ≡ k' → Sound limit c k ks
      → Sound limit c' k' ks
  moved {ks = ks} p q s = subst₂ (λ (c : List ℕ) (k : Gathered). Sound limit c k ks) p q s

  -- 01
  sound_features : (c b : List ℕ) (k : Gathered) (ks : List Key) → Sound limit c k ks → length b ≡ 2
      → features_rule b ≡ true → in_order k.marks.last 1 ≡ true
      → Sound limit (c ++ (1 ∷ b)) (with_features k b) ks
  unfolding in_order with_features
  sound_features c b k ks none l r o =
      let d = features_body (features_of b) in
      let p : Sound limit (1 ∷ d) (with_features nothing_gathered d) [] = first (features_of b) (features_iam b l r) in
      rw (features_forth b l r) at p
  sound_features c b k ks (first f h) l r o = let z : ◌≡◌ {A = ℕ} 0 1 = cc in absurd (omega arith)
  sound_features c b k _ (more f z m ks ss ls w) l r o =
      let h = order_back m.last 1 w.begun o in
      absurd (omega arith)

  -- 02
  sound_sizes : (c b : List ℕ) (k : Gathered) (ks : List Key) → Sound limit c k ks → Bytes b → length b ≡ 4
      → sizes_rule b ≡ true → in_order k.marks.last 2 ≡ true → Sound limit (c ++ (2 ∷ b)) (with_sizes k b) ks
  unfolding in_order nothing_gathered no_marks with_features with_sizes empty_terms profile_limit lock_limit
      keys_written profiles_written locks_written
  sound_sizes c b k ks none y l r o = let z : ◌≡◌ {A = ℕ} 0 1 = cc in absurd (omega arith)
  sound_sizes c b k ks (first f h) y l r o =
      let n = sizes_low b y l r in
      let z = sizes_of b in
      let m = marks_of 2 0 0 0 0 0 0 in
      let w : Fine limit f z m [] [] [] = record {
        iam3 = h;
        identity = n.0;
        user = n.1;
        begun = omega arith;
        keys = tt;
        key_count = refl;
        key_next = refl;
        key_few = omega arith;
        slots = tt;
        slot_next = refl;
        slot_few = omega arith;
        locks = tt;
        area_next = refl;
        word_next = refl;
        lock_few = omega arith;
        no_slots = λ e. refl;
        no_locks = λ e. refl;
      } in
      moved
      (append-nil (opening f z) ∙ ap (λ (x : List ℕ). (1 ∷ features_body f) ++ (2 ∷ x)) (sizes_forth b y l r))
      (rw (features_back f))
      (more f z m [] [] [] w)
  sound_sizes c b k _ (more f z m ks ss ls w) y l r o =
      let h = order_back m.last 2 w.begun o in
      absurd (omega arith)

  -- 03
  sound_key : (c b : List ℕ) (k : Gathered) (ks : List Key) → Sound limit c k ks → Bytes b → length b ≡ 36
      → key_rule k.marks.id b ≡ true → in_order k.marks.last 3 ≡ true → k.marks.keys < limit
      → Sound limit (c ++ (3 ∷ b)) (with_key k b) (ks ++ key_of b ∷ [])
  unfolding in_order nothing_gathered no_marks with_features with_key key_of
  sound_key c b k ks none y l r o t = let z : ◌≡◌ {A = ℕ} 0 1 = cc in absurd (omega arith)
  sound_key c b k ks (first f h) y l r o t = let z : ◌≡◌ {A = ℕ} 0 1 = cc in absurd (omega arith)
  sound_key c b k _ (more f z m ks ss ls w) y l r o t =
      let q = order_back m.last 3 w.begun o in
      let x = key_of b in
      let es = w.no_slots q.1 in
      let el = w.no_locks (omega (arith, q.1)) in
      let m' = marks_of 3 (m.keys + 1) m.profiles (byte_at b 0 + 1) m.number m.area m.word in
      let w' : Fine limit f z m' (ks ++ x ∷ []) ss ls = record {
        iam3 = w.iam3;
        identity = w.identity;
        user = w.user;
        begun = omega arith;
        keys =
            keys_more 0 ks x w.keys (rw w.key_next at (key_rises m.id b y l r)) (key_within m.id b y l r);
        key_count = rw (length-append ks (x ∷ []), w.key_count);
        key_next = sym (next_key_lem 0 ks x);
        key_few = rw (length-append ks (x ∷ [])) (omega (arith, w.key_count));
        slots = w.slots;
        slot_next = w.slot_next;
        slot_few = w.slot_few;
        locks = w.locks;
        area_next = w.area_next;
        word_next = w.word_next;
        lock_few = w.lock_few;
        no_slots = λ e. es;
        no_locks = λ e. el;
      } in
      let p = profiles_written 0 ss in
      let k = locks_written ls in
      moved
      (ap (λ (i : List ℕ). opening f z ++ (i ++ (p ++ k))) (keys_written_lem ks x)
      ∙ glue_key (opening f z) (keys_written ks) p k (3 ∷ key_body x) (no_slot_bytes ss es) (no_lock_bytes ls el)
      ∙ ap (λ (i : List ℕ). body f z ks ss ls ++ (3 ∷ i)) (key_forth m.id b y l r))
      refl
      (more f z m' (ks ++ x ∷ []) ss ls w')

  -- 04
  sound_profile : (c b : List ℕ) (k : Gathered) (ks : List Key) → Sound limit c k ks → Bytes b → length b ≡ 6
      → profile_rule k.marks.number k.terms.sizes b ≡ true → in_order k.marks.last 4 ≡ true
      → Sound limit (c ++ (4 ∷ b)) (with_profile k b) ks
  unfolding in_order nothing_gathered no_marks with_features
  sound_profile c b k ks none y l r o = let z : ◌≡◌ {A = ℕ} 0 1 = cc in absurd (omega arith)
  sound_profile c b k ks (first f h) y l r o = let z : ◌≡◌ {A = ℕ} 0 1 = cc in absurd (omega arith)
  sound_profile c b k _ (more f z m ks ss ls w) y l r o =
      let q = order_back m.last 4 w.begun o in
      let x = slot_of b in
      let p = byte_at b 0 in
      let el = w.no_locks q.1 in
      let up : length ss ≤ p = rw w.slot_next at (profile_rises m.number z b y l r) in
      let place = profile_place m.number z b r in
      let fine = profile_within m.number z b y l r in
      let w' : Fine limit f z (profile_marks m b) ks (up_to ss p x) ls = record {
        iam3 = w.iam3;
        identity = w.identity;
        user = w.user;
        begun = omega arith;
        keys = w.keys;
        key_count = w.key_count;
        key_next = w.key_next;
        key_few = w.key_few;
        slots = up_fine z ss p x w.slots (inr fine);
        slot_next = sym (up_length ss p x up);
        slot_few = rw (up_length ss p x up) (omega arith);
        locks = w.locks;
        area_next = w.area_next;
        word_next = w.word_next;
        lock_few = w.lock_few;
        no_slots = λ e. absurd (let n : ⊥ = omega arith in n);
        no_locks = λ e. el;
      } in
      let a = keys_written ks in
      let k = locks_written ls in
      let one : List ℕ = 4 ∷ profile_body p x.profile in
      moved
      (ap (λ (i : List ℕ). opening f z ++ (a ++ (i ++ k))) (up_written ss p x up fine.0)
      ∙ glue_slot (opening f z) a (profiles_written 0 ss) k one (no_lock_bytes ls el)
      ∙ ap (λ (i : List ℕ). body f z ks ss ls ++ (4 ∷ i)) (profile_forth m.number z b y l r))
      (sym (slot_gathered f z m ss ls b up place))
      (more f z (profile_marks m b) ks (up_to ss p x) ls w')

  -- 05
  sound_lock : (c b : List ℕ) (k : Gathered) (ks : List Key) → Sound limit c k ks → Bytes b → length b ≡ 5
      → lock_rule k.marks.area k.marks.word k.terms.sizes b ≡ true → in_order k.marks.last 5 ≡ true
      → k.terms.locks.count < lock_limit → Sound limit (c ++ (5 ∷ b)) (with_lock k b) ks
  unfolding in_order nothing_gathered no_marks with_features lock_of
  sound_lock c b k ks none y l r o t = let z : ◌≡◌ {A = ℕ} 0 1 = cc in absurd (omega arith)
  sound_lock c b k ks (first f h) y l r o t = let z : ◌≡◌ {A = ℕ} 0 1 = cc in absurd (omega arith)
  sound_lock c b k _ (more f z m ks ss ls w) y l r o t =
      let x = lock_of b in
      let one = lock_within m.area m.word z b y l r in
      let w' : Fine limit f z (lock_marks m b) ks ss (ls ++ x ∷ []) = record {
        iam3 = w.iam3;
        identity = w.identity;
        user = w.user;
        begun = omega arith;
        keys = w.keys;
        key_count = w.key_count;
        key_next = w.key_next;
        key_few = w.key_few;
        slots = w.slots;
        slot_next = w.slot_next;
        slot_few = w.slot_few;
        locks = locks_more 0 0 z ls x w.locks (rw (w.area_next, w.word_next) at one);
        area_next = sym (next_area_lem 0 ls x ∙ area_05 m.area m.word z b y l r);
        word_next = sym (next_word_lem 0 ls x);
        lock_few = rw (longer no_lock lock_limit ls x) (omega arith);
        no_slots = λ e. absurd (let n : ⊥ = omega arith in n);
        no_locks = λ e. absurd (let n : ⊥ = omega arith in n);
      } in
      let a = keys_written ks in
      let p = profiles_written 0 ss in
      moved
      (ap (λ (i : List ℕ). opening f z ++ (a ++ (p ++ i))) (locks_written_lem ls x)
      ∙ glue_lock (opening f z) a p (locks_written ls) (5 ∷ lock_body x)
      ∙ ap (λ (i : List ℕ). body f z ks ss ls ++ (5 ∷ i)) (lock_forth m.area m.word z b y l r))
      (sym (lock_gathered f z m ss ls b t))
      (more f z (lock_marks m b) ks ss (ls ++ x ∷ []) w')

  -- one record of any kind
  by_kind_lem : (q : Kind) (b c : List ℕ) (k k' : Gathered) (ks : List Key) → Took q b k k' → Sound limit c k ks
      → Bytes b
      → length b ≡ body_length q → in_order k.marks.last (code_of q) ≡ true → too_many limit q k ≡ false
      → Sound limit (c ++ (code_of q ∷ b)) k' (ks ++ key_said (Some q) b)
  by_kind_lem q b c k k' ks (took_features r) s y l o t = rw (append-nil ks) (sound_features c b k ks s l r o)
  by_kind_lem q b c k k' ks (took_sizes r) s y l o t = rw (append-nil ks) (sound_sizes c b k ks s y l r o)
  by_kind_lem q b c k k' ks (took_key r) s y l o t =
      sound_key c b k ks s y l r o (key_room_lem limit KeyRecord k refl t)
  by_kind_lem q b c k k' ks (took_profile r) s y l o t = rw (append-nil ks) (sound_profile c b k ks s y l r o)
  by_kind_lem q b c k k' ks (took_lock r) s y l o t =
      rw (append-nil ks) (sound_lock c b k ks s y l r o (lock_room limit LockRecord k refl t))

  bytes_behind : (c r s : List ℕ) → c ++ r ≡ s → Bytes s → Bytes r
  bytes_behind c r s e y =
      rw (drop_at c r (length c) refl) at (bytes_drop (length c) (c ++ r) (rw (← e) at y))

  pub sound_step : (s : List ℕ) → Bytes s → (c : List ℕ) (b : ℕ) (t : List ℕ) (k k' : Gathered) (n : ℕ) (ks : List Key)
      → c ++ (b ∷ t) ≡ s → Step limit b t k k' n → Sound limit c k ks
      → Sound limit (c ++ take n (b ∷ t)) k' (ks ++ key_said (kind_of b) (take (length_behind (kind_of b)) t))
  sound_step s y c b t k k' n ks e p h =
      let q = p.kind in
      let d = take (body_length q) t in
      let code = kind_code b q p.passed_checks.known in
      let long : length d ≡ body_length q = length-take-le (body_length q) t p.passed_checks.whole in
      let tail = bytes_take (body_length q) t (bytes_tail b t (bytes_behind c (b ∷ t) s e y)) in
      let order = ap (in_order k.marks.last) (sym code) ∙ p.passed_checks.ordered in
      rw p.passed_checks.known
      (moved
      (ap (λ (x : ℕ). c ++ (x ∷ d)) (sym code) ∙ ap (λ (x : ℕ). c ++ take x (b ∷ t)) (sym p.size))
      refl
      (by_kind_lem q d c k k' ks p.took h tail long order p.passed_checks.few))
