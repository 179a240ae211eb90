use Rattle.std.proofs.Common.{rules, ◌≡◌, ℕ, ◌+◌, ◌-◌, ◌*◌, take, drop, IsTrue, ap, ◌∙◌, subst, arith}
use Rattle.std.proofs.lemmas.Bool.{both_ways, not-false}
use Rattle.fr_crc.specs.Crc.{IsFrameCrc}
use Rattle.fr_frame.specs.declared.fault.FrameFault.TheVariants.{HeaderCrc, FrameCrc}
use Rattle.fr_frame.specs.declared.header.Header.{Header}
use Rattle.fr_frame.specs.Fault.{HasRightLength}
use Rattle.fr_frame.proofs.Parts.{read_length, read_trailer, read_body, checks_frame}
use Rattle.fr_frame.proofs.FirstFault.{fault_is_no_frame}
use Rattle.fr_frame.proofs.Exact.{reading_is_one}
use Rattle.fr_frame.proofs.decoding.decode.Goals as goal
use Rattle.fr_frame.proofs.decoding.decode.Goals.{else-header-via-then-header+else-not-header, else-header-via-else-header}

pub returns-then-kept-computed-clause-only : goal.returns-then-kept-computed-clause-only
returns-then-kept-computed-clause-only c =
    fault_is_no_frame c.args.channel c.args.bytes.now (HeaderCrc c.header_at-kept.result.1 c.header_crc-computed.result) (search rules)

pub returns-then-trailer-whole-clause-only : goal.returns-then-trailer-whole-clause-only
returns-then-trailer-whole-clause-only c =
    let h : Header = c.header_at-kept.result.0 in
    let length_right : HasRightLength c.args.bytes.now h c.header_at-kept.result.1 =
    read_length c.args.bytes.now h c.header_at-kept.result.1 c.header_crc-computed.result c.from.result (omega arith) c.header_at-kept.ensures.id c.header_at-kept.ensures.words c.header_at-kept.ensures.cycle c.header_at-kept.ensures.kept c.header_at-kept.ensures.spelled c.header_crc-computed.ensures (omega arith) c.from.ensures (omega arith) in
    fault_is_no_frame c.args.channel c.args.bytes.now (FrameCrc c.trailer_at-trailer.result c.frame_crc-whole.result) (record {
      header = h;
      crc = c.header_at-kept.result.1;
      length_right = length_right;
      kept_fits = c.trailer_at-trailer.ensures.kept;
      spelled = read_trailer c.args.bytes.now h c.from.result c.trailer_at-trailer.result c.from.ensures c.trailer_at-trailer.ensures.spelled;
      right = read_body c.args.channel c.args.bytes.now h c.from.result c.frame_crc-whole.result c.from.ensures c.frame_crc-whole.ensures;
      differs = λ (same : c.trailer_at-trailer.result ≡ c.frame_crc-whole.result). omega arith;
    })

pub returns-clause-found : goal.returns-clause-found
returns-clause-found c =
    let h : Header = c.header_at-kept.result.0 in
    let length_right : HasRightLength c.args.bytes.now h c.header_at-kept.result.1 =
    read_length c.args.bytes.now h c.header_at-kept.result.1 c.header_crc-computed.result c.from.result (omega arith) c.header_at-kept.ensures.id c.header_at-kept.ensures.words c.header_at-kept.ensures.cycle c.header_at-kept.ensures.kept c.header_at-kept.ensures.spelled c.header_crc-computed.ensures (omega arith) c.from.ensures (omega arith) in
    let right : IsFrameCrc c.args.channel (take (5 + 2 * c.from.result) c.args.bytes.now) c.trailer_at-trailer.result =
    let P : ℕ → Type 0 = λ (x : ℕ). IsFrameCrc c.args.channel (take (5 + 2 * c.from.result) c.args.bytes.now) x in
    let same : c.frame_crc-whole.result ≡ c.trailer_at-trailer.result = omega arith in
    subst P same c.frame_crc-whole.ensures in
    let more : 5 + 2 * c.from.result - 5 ≡ 2 * h.words = omega (arith, c.from.ensures) in
    let sync : IsTrue h.startup → IsTrue h.sync =
    elim c.else-header.branch [ else-header-via-then-header+else-not-header w ↦ λ set. not-false h.sync w.if-not-header.false | else-header-via-else-header w ↦ λ set. absurd (both_ways h.startup w.if-header.false set) ] in
    checks_frame c.args.channel c.args.bytes.now c.payload_in.result.now h c.header_at-kept.result.1 c.trailer_at-trailer.result
    (record {
      length_right = length_right;
      right = read_body c.args.channel c.args.bytes.now h c.from.result c.trailer_at-trailer.result c.from.ensures right;
      spelled = read_trailer c.args.bytes.now h c.from.result c.trailer_at-trailer.result c.from.ensures c.trailer_at-trailer.ensures.spelled;
    })
    (omega arith) sync
    (c.payload_in.ensures.value ∙ ap (λ (m : ℕ). take m (drop 5 c.args.bytes.now)) more)

pub returns-then-kept-computed-clause-back : goal.returns-then-kept-computed-clause-back
returns-then-kept-computed-clause-back c = returns-then-kept-computed-clause-only c

pub returns-then-trailer-whole-clause-back : goal.returns-then-trailer-whole-clause-back
returns-then-trailer-whole-clause-back c = returns-then-trailer-whole-clause-only c

pub returns-clause-back : goal.returns-clause-back
returns-clause-back c = λ header payload is.
    reading_is_one c.args.channel c.header_at-kept.result.0 header c.payload_in.result.now payload c.args.bytes.now
    (c.header_at-kept.result.1, (c.trailer_at-trailer.result, returns-clause-found c)) is
