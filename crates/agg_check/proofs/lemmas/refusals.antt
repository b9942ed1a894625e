pub mod SeenRequests
pub mod SoundRequests
