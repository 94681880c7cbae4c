-- `two_reads::results` meets its contract: the part of the first read that decodes is its results, by `part-results`.
use Rattle.std.proofs.Common.{ap, arith}
use Rattle.rules.specs.Master.{Decoding, result_bytes}
use Rattle.decoder.proofs.ReadsLaws.{decodes_refused, decodes_reply, reply_within, part-results}
use Rattle.two_reads.proofs.results.Goals as goal

pub returns-in_default-decode : goal.returns-in_default-decode
unfolding result_bytes
returns-in_default-decode c =
    rw (
      decodes_refused c.decode.ensures c.in_default.not-Reply,
      decodes_refused c.decode-in_default.ensures c.in_default-decode.not-Reply,
    )

pub overflow_add-result : goal.overflow_add-result
overflow_add-result c = omega (arith, reply_within c.decode-in_default.ensures c.in-Reply-decode.is)

pub returns-in_default : goal.returns-in_default
unfolding result_bytes
returns-in_default c =
    let known = c.in-Reply-decode.is in
    rw (
      decodes_refused c.decode.ensures c.in_default.not-Reply,
      ap (λ (d : Decoding). d.number) (decodes_reply c.decode-in_default.ensures known),
    )
    (part-results c.decode-in_default.ensures known)

pub overflow_add-result-2 : goal.overflow_add-result-2
overflow_add-result-2 c = omega (arith, reply_within c.decode.ensures c.in-Reply.is)

pub returns : goal.returns
unfolding result_bytes
returns c =
    let known = c.in-Reply.is in
    rw (ap (λ (d : Decoding). d.number) (decodes_reply c.decode.ensures known))
    (part-results c.decode.ensures known)
