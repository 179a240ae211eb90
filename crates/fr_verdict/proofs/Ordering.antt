-- The deviations of a cycle in their order, and how large they are.
use Rattle.std.proofs.Common.{◌≡◌, inl, inr, ℕ, zero, suc, ◌+◌, ◌<◌, ℤ, List, [], ◌∷◌, ◌++◌, map, get_or, Option, Some, None, refl, ap, sym, ◌∙◌, subst, arith}
use Rattle.std.specs.Prelude.{All, AllPairs}
use Rattle.std.specs.List.{flat_map, range_with_len}
use Rattle.std.specs.Option.{option_map, option_to_list}
use Rattle.std.proofs.lemmas.List.Elements.{All-append, All-cons, All-head, All-nil, All-tail}
use Rattle.std.proofs.lemmas.List.Folds.{flat_map-map}
use Rattle.std.proofs.lemmas.List.Kept.{AllPairs-cons}
use Rattle.fr_base.specs.Rows.{AreAscendingDevs, AreAscendingRows, IsEarlierDev, channel_rank, dev_with}
use Rattle.fr_base.specs.declared.channel.Channel.{Channel}
use Rattle.fr_base.specs.declared.channel.Channel.TheVariants.{A, B}
use Rattle.fr_base.specs.declared.dev.Dev.{Dev}
use Rattle.fr_base.specs.declared.node_row.NodeRow.{NodeRow}
use Rattle.fr_cluster.proofs.KeyNodes.{AllPairs-rest}
use Rattle.fr_cluster.specs.Setting.{Setting}
use Rattle.fr_history.proofs.Lists.{All-both, All-flat_map}
use Rattle.fr_history.proofs.Devs.{devs_are_stored, stored_at, stored_of}
use Rattle.fr_history.proofs.Found.{receptions_found}
use Rattle.fr_history.specs.Offers.{AreReceptions, Reception, channels, devs_among, static_slots_of, stored_in}
use Rattle.fr_history.specs.Rows.{uncorrected}
use Rattle.fr_reception.proofs.Answers.{answer_found}

-- ---- lists whose parts are in order

pairs-append : {X : Type 0} (R : X → X → Type 0) (a b : List X) → AllPairs R a → AllPairs R b → All (λ x. All (R x) b) a → AllPairs R (a ++ b)
pairs-append R [] b own other cross = other
pairs-append {X} R (x ∷ a) b own other cross =
    AllPairs-cons R x (a ++ b) (All-append (R x) a b (λ k d lt. own 0 (suc k) d (omega arith) (omega (arith, lt))) (All-head (λ (y : X). All (R y) b) x a cross))
    (pairs-append R a b (AllPairs-rest R x a own) other (All-tail (λ (y : X). All (R y) b) x a cross))

across : {X Y : Type 0} (R : Y → Y → Type 0) (f : X → List Y) (x : X) (ys : List X) → All (λ y. All (λ a. All (R a) (f y)) (f x)) ys → All (λ a. All (R a) (flat_map f ys)) (f x)
across R f x [] each = λ k d lt. All-nil (R (get_or (f x) k d))
across {X} {Y} R f x (y ∷ ys) each =
    All-both (λ (a : Y). All (R a) (f y)) (λ (a : Y). All (R a) (flat_map f ys)) (λ (a : Y). All (R a) (f y ++ flat_map f ys)) (λ a p q. All-append (R a) (f y) (flat_map f ys) p q) (f x)
    (All-head (λ (z : X). All (λ a. All (R a) (f z)) (f x)) y ys each) (across R f x ys (All-tail (λ (z : X). All (λ a. All (R a) (f z)) (f x)) y ys each))

flat-pairs : {X Y : Type 0} (S : X → X → Type 0) (R : Y → Y → Type 0) (f : X → List Y) (xs : List X) → AllPairs S xs → ((x : X) → AllPairs R (f x))
    → ((x y : X) → S x y → All (λ a. All (R a) (f y)) (f x)) → AllPairs R (flat_map f xs)
flat-pairs S R f [] order own cross = λ i j d lt le. absurd (omega (arith, le))
flat-pairs S R f (x ∷ xs) order own cross =
    pairs-append R (f x) (flat_map f xs) (own x) (flat-pairs S R f xs (AllPairs-rest S x xs order) own cross)
    (across R f x xs (λ k d lt. cross x (get_or xs k d) (order 0 (suc k) d (omega arith) (omega (arith, lt)))))

range-above : (least from count : ℕ) → least < from → All (λ k. least < k) (range_with_len from count)
range-above least from zero lt = All-nil (λ k. least < k)
range-above least from (suc count) lt = All-cons (λ k. least < k) from (range_with_len (from + 1) count) lt (range-above least (from + 1) count (omega (arith, lt)))

range-ascends : (from count : ℕ) → AllPairs (λ a b. a < b) (range_with_len from count)
range-ascends from zero = λ i j d lt le. absurd (omega (arith, le))
range-ascends from (suc count) = AllPairs-cons (λ a b. a < b) from (range_with_len (from + 1) count) (range-above from (from + 1) count (omega arith)) (range-ascends (from + 1) count)

-- ---- the deviations of a cycle

-- what one of a receiver, a slot and a channel tells
record IsOf (node slot : ℕ) (channel : Channel) (dev : Dev) : Type 0 where
  receiver : dev.receiver ≡ node
  slot_is : dev.slot ≡ slot
  channel_is : dev.channel ≡ channel

module _ (x : Setting) (cycle : ℕ) (sending : List NodeRow) where
  at-marks : (row : NodeRow) (slot : ℕ) (channel : Channel) → All (IsOf row.node slot channel) (stored_at x cycle sending row slot channel)
  at-marks row slot channel = by (stored_in x cycle sending row slot channel)
    where
      by : (o : Option ℤ) → All (IsOf row.node slot channel) (option_to_list (option_map (dev_with row.node slot channel) o))
      by None = All-nil (IsOf row.node slot channel)
      by (Some value) = All-cons (IsOf row.node slot channel) (dev_with row.node slot channel value) [] (record { receiver = refl; slot_is = refl; channel_is = refl }) (All-nil (IsOf row.node slot channel))

  at-order : (row : NodeRow) (slot : ℕ) (channel : Channel) → AreAscendingDevs (stored_at x cycle sending row slot channel)
  at-order row slot channel = by (stored_in x cycle sending row slot channel)
    where
      by : (o : Option ℤ) → AreAscendingDevs (option_to_list (option_map (dev_with row.node slot channel) o))
      by None = λ i j d lt le. absurd (omega (arith, le))
      by (Some value) = λ i j d lt le. absurd (omega (arith, lt, le))

  In-slot : NodeRow → ℕ → List Dev
  In-slot row slot = flat_map (stored_at x cycle sending row slot) channels

  slot-marks : (row : NodeRow) (slot : ℕ) → All (λ dev. (dev.receiver ≡ row.node) × (dev.slot ≡ slot)) (In-slot row slot)
  unfolding In-slot
  slot-marks row slot =
      All-flat_map (λ (dev : Dev). (dev.receiver ≡ row.node) × (dev.slot ≡ slot)) (stored_at x cycle sending row slot)
      (λ channel k d lt. let m = at-marks row slot channel k d lt in (m.receiver, m.slot_is)) channels

  slot-order : (row : NodeRow) (slot : ℕ) → AreAscendingDevs (In-slot row slot)
  unfolding In-slot
  slot-order row slot =
      flat-pairs (λ (a b : Channel). channel_rank a < channel_rank b) IsEarlierDev (stored_at x cycle sending row slot) channels
      (AllPairs-cons (λ (a b : Channel). channel_rank a < channel_rank b) A (B ∷ []) (All-cons (λ (b : Channel). 0 < channel_rank b) B [] (omega arith) (All-nil (λ (b : Channel). 0 < channel_rank b)))
      (AllPairs-cons (λ (a b : Channel). channel_rank a < channel_rank b) B [] (All-nil (λ (b : Channel). 1 < channel_rank b)) (λ i j d lt le. absurd (omega (arith, le)))))
      (at-order row slot)
      (λ a b lt. λ k d less. λ j e more.
      let m = at-marks row slot a k d less in
      let n = at-marks row slot b j e more in
      inr (m.receiver ∙ sym n.receiver, inr (m.slot_is ∙ sym n.slot_is, rw (m.channel_is, n.channel_is) lt)))

  row-marks : (row : NodeRow) → All (λ dev. dev.receiver ≡ row.node) (stored_of x cycle sending row)
  unfolding In-slot
  row-marks row = All-flat_map (λ (dev : Dev). dev.receiver ≡ row.node) (λ slot. flat_map (stored_at x cycle sending row slot) channels) (λ slot k d lt. (slot-marks row slot k d lt).0) (static_slots_of x)

  row-order : (row : NodeRow) → AreAscendingDevs (stored_of x cycle sending row)
  unfolding In-slot
  row-order row =
      flat-pairs (λ (a b : ℕ). a < b) IsEarlierDev (λ slot. flat_map (stored_at x cycle sending row slot) channels) (static_slots_of x) (range-ascends 1 _) (slot-order row)
      (λ a b lt. λ k d less. λ j e more.
      let m = slot-marks row a k d less in
      let n = slot-marks row b j e more in
      inr (m.0 ∙ sym n.0, inl (rw (m.1, n.1) lt)))

  pub devs-order : (rows : List NodeRow) → AreAscendingRows rows → AreAscendingDevs (flat_map (λ row. stored_of x cycle sending (uncorrected row)) rows)
  devs-order rows ascend =
      flat-pairs (λ (a b : NodeRow). a.node < b.node) IsEarlierDev (λ (row : NodeRow). stored_of x cycle sending (uncorrected row)) rows ascend (λ row. row-order (uncorrected row))
      (λ a b lt. λ k d less. λ j e more.
      let m = row-marks (uncorrected a) k d less in
      let n = row-marks (uncorrected b) j e more in
      inl (rw (m, n) lt))

-- those of a cycle
pub cycle-order : (x : Setting) (cycle : ℕ) (rows : List NodeRow) (receptions : List Reception) (devs : List Dev) → AreReceptions x cycle (map uncorrected rows) receptions → devs ≡ devs_among receptions
    → AreAscendingRows rows → AreAscendingDevs devs
cycle-order x cycle rows receptions devs received listed ascend =
    let sending : List NodeRow = map uncorrected rows in
    let same : devs ≡ flat_map (λ row. stored_of x cycle sending (uncorrected row)) rows =
    listed
    ∙ ap devs_among (receptions_found answer_found x cycle sending sending receptions received)
    ∙ devs_are_stored x cycle sending sending
    ∙ flat_map-map (stored_of x cycle sending) uncorrected rows
    in
    subst AreAscendingDevs (sym same) (devs-order x cycle sending rows ascend)
