use Rattle.std.proofs.Common.{◌≡◌, ap, sym, ◌∙◌}
use Rattle.fr_crc.proofs.Existence.{a_header_crc}
use Rattle.fr_crc.proofs.Unique.{header_crc_is_one}
use Rattle.fr_frame.specs.declared.header.Header.{Header}
use Rattle.fr_frame.specs.Reading.{crc_of, header_crc_in, header_of}
use Rattle.fr_frame.proofs.Found.{header_found}
use Rattle.fr_frame.proofs.front.front_of.Goals as goal

-- the header that is read is that of the bytes, and so is the CRC that they keep
found : (c : goal.After-header_crc) → (header_of c.args.bytes.now ≡ c.header_at-kept.result.0) × (header_crc_in c.args.bytes.now ≡ c.header_at-kept.result.1)
found c =
    header_found c.args.bytes.now c.header_at-kept.result.0 c.header_at-kept.result.1 c.requires (record {
      id_fits = c.header_at-kept.ensures.id;
      words_fit = c.header_at-kept.ensures.words;
      cycle_fits = c.header_at-kept.ensures.cycle;
      kept_fits = c.header_at-kept.ensures.kept;
      spelled = c.header_at-kept.ensures.spelled;
    })

pub returns-clause-header : goal.returns-clause-header
returns-clause-header c = sym (found c).0

pub returns-clause-kept : goal.returns-clause-kept
returns-clause-kept c = sym (found c).1

pub returns-clause-computed : goal.returns-clause-computed
returns-clause-computed c =
    let h : Header = c.header_at-kept.result.0 in
    header_crc_is_one h.sync h.startup h.id h.words c.header_crc.result (crc_of h) c.header_crc.ensures (a_header_crc h.sync h.startup h.id h.words)
    ∙ ap crc_of (sym (found c).0)

pub returns-clause-words : goal.returns-clause-words
returns-clause-words c = c.header_at-kept.ensures.words
