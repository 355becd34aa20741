-- Links are followed link by link, and one file that meets no link is as many files.
pub mod FollowLaws
pub mod WalkLemmas
pub mod ReachLemmas
pub mod StepTests
pub mod OneFileLaws
pub mod QueryAsMany
