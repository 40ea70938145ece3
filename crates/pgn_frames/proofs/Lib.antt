-- bytes have one list of frames
pub mod FrameLaws
-- what comes next, as it is read
pub mod ArrivalLaws
-- signs have one list of asks
pub mod AskLaws
-- messages with more behind them
pub mod MoreLaws
-- the signs of a seat, in frames that grow
pub mod SignLaws
-- what the writer has taken and given out
pub mod WriteLaws
-- what stands at the front of bytes
pub mod FrontLaws
-- how a reader goes on from where it stands with a seat
pub mod StandLaws
-- what callers have put
pub mod CallerLaws
-- frame after frame, for all seats
pub mod ReadingLaws
