-- Parameters that are made of what the tables hold.
use Rattle.std.proofs.Common.{◌≡◌, ℕ, ℤ, List, Option, Some, ap, sym, ◌∙◌, arith, subst}
use Rattle.fr_text.specs.Records.{FileRecord}
use Rattle.fr_text.specs.Refusal.{NoneRefused}
use Rattle.fr_params.specs.Names.{place}
use Rattle.fr_cluster.specs.Values.{Values, figure, amount}
use Rattle.fr_cluster.specs.Numbers.{number_in, amount_in}
use Rattle.fr_cluster.specs.Constraints.{Amounts, FirstFails, key_slots}
use Rattle.fr_params.specs.Reasons.{node_at, param_reason_after, slot_at}
use Rattle.fr_params.specs.Versions.{row_name, version_of}
use Rattle.fr_params.specs.Draft.{AreNumbers, AreTables, IsParamsDraft, entry, version_told}
use Rattle.fr_params.specs.Lists.{listed}
use Rattle.fr_params.specs.Files.{IsMissing, IsMissingIn, ParamsStandFor}
use Rattle.fr_cluster.specs.declared.names.ParamName.{ParamName}
use Rattle.fr_cluster.specs.declared.nodes.SlotSpec.{SlotSpec}
use Rattle.fr_params.specs.declared.names.Version.{Version}
use Rattle.fr_params.specs.declared.draft.Draft.{Draft}
use Rattle.fr_params.specs.declared.draft.Tables.{Tables}
use Rattle.fr_params.proofs.Places.{place-lt}
use Rattle.fr_cluster.proofs.Figures.{amount-same}
use Rattle.fr_params.proofs.Listing.{listed-same}
use Rattle.fr_params.proofs.TableOfTwo.{number-row}
use Rattle.fr_params.proofs.Taking.{told-seen}

-- a constraint that fails for the numbers fails for their parameters
pub fails-of : (p : Values) (numbers : List ℤ) (keys : List ℕ) (slots : List SlotSpec) (k : ℕ) → ((n : ParamName) → figure p n ≡ number_in numbers n)
    → keys ≡ key_slots p.nodes → slots ≡ p.slots
    → FirstFails k (amount_in numbers) keys slots → FirstFails k (amount p) (key_slots p.nodes) p.slots
fails-of p numbers keys slots k same e1 e2 fails =
    let P : Amounts → Type 0 = λ f. FirstFails k f (key_slots p.nodes) p.slots in
    let Q : List ℕ → Type 0 = λ ks. FirstFails k (amount_in numbers) ks slots in
    let R : List SlotSpec → Type 0 = λ s. FirstFails k (amount_in numbers) (key_slots p.nodes) s in
    subst P (amount-same p numbers same) (subst R e2 (subst Q e1 fails))

-- parameters of what the tables hold stand for the records
pub stands-of : (d : Tables) (records : List FileRecord) (p : Values) (numbers : List ℤ) → AreTables (version_of records) d records
    → AreNumbers (version_of records) d.values numbers → ((n : ParamName) → figure p n ≡ number_in numbers n)
    → p.nodes ≡ listed 64 (entry d.nodes) → p.slots ≡ listed 1023 (entry d.slots) → ParamsStandFor p records
stands-of d records p numbers h all same nodes slots = record {
  figures = λ n e.
      let at = place (row_name (version_of records) n) in
      sym (h.values.same at (place-lt (row_name (version_of records) n)))
      ∙ number-row (version_of records) d.values numbers n all e
      ∙ ap (λ (z : ℤ). Some z) (sym (same n));
  nodes = nodes ∙ listed-same 64 (entry d.nodes) (λ k. node_at (version_of records) k records) (λ k le. h.nodes.same k (omega arith));
  slots = slots ∙ listed-same 1023 (entry d.slots) (λ k. slot_at (version_of records) k records) (λ k le. h.slots.same k (omega arith));
}

-- the version that was seen of all records is theirs
pub version-is : (d : Draft) (records : List FileRecord) (version : Version) → IsParamsDraft d records → version ≡ version_told d.version → version ≡ version_of records
version-is d records version h is = is ∙ ap (λ (seen : Option Version). version_told seen) h.version ∙ told-seen records

pub numbers-are : (d : Draft) (records : List FileRecord) (version : Version) (numbers : List ℤ) → IsParamsDraft d records → version ≡ version_told d.version
    → AreNumbers version d.tables.values numbers → AreNumbers (version_of records) d.tables.values numbers
numbers-are d records version numbers h is all =
    let P : Version → Type 0 = λ v. AreNumbers v d.tables.values numbers in subst P (version-is d records version h is) all

-- a name that the values lack is missing in the records
pub missing-of : (d : Draft) (records : List FileRecord) (version : Version) (n : ParamName) → NoneRefused param_reason_after records → IsParamsDraft d records
    → version ≡ version_told d.version → IsMissingIn version d.tables.values n → IsMissing n records
missing-of d records version n none h is lacks =
    let P : Version → Type 0 = λ v. IsMissingIn v d.tables.values n in
    let here = subst P (version-is d records version h is) lacks in
    record {
      none_refused = none;
      known = here.known;
      missing = sym (h.tables.values.same (place n) (place-lt n)) ∙ here.missing;
      earlier = λ m e lt. rw (sym (h.tables.values.same (place m) (place-lt m))) (here.earlier m e lt);
    }
